use Rattle.std.proofs.Common.{◌≡◌, ◌∙◌, None}
use Rattle.at_model.specs.Activities.{new_activity, beginning, on_interpose}
use Rattle.completion_at.specs.ActivityPlans.{begun}
use Rattle.at_posts.proofs.EqualAnswers.{given}
use Rattle.completion_at.proofs.requests.on_interpose.Goals as goal

pub returns : goal.returns
unfolding on_interpose
returns c =
    let made : c.new_activity-activity.result ≡ new_activity c.args.id c.args.above.now.root None = c.new_activity-activity.ensures ∙ (λ i. new_activity c.args.id (c.above.view_is i).root None) in
    given c.beginning.result _ _
    (λ i. begun (beginning c.args.moment.now.base c.args.coordinator.now None (c.above.view_is i).context (made i)))
    c.beginning.ensures
