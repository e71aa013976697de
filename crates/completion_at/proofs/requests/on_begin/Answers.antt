use Rattle.std.proofs.Common.{◌≡◌, ◌∙◌, None, ap}
use Rattle.at_model.specs.Activities.{asked_expires, new_activity, beginning, on_begin}
use Rattle.at_model.specs.Create.{deadline_of}
use Rattle.completion_at.specs.ActivityPlans.{begun}
use Rattle.at_posts.proofs.EqualAnswers.{given}
use Rattle.completion_at.proofs.requests.on_begin.Goals as goal

pub returns : goal.returns
unfolding on_begin
returns c =
    let late : c.deadline_of.result ≡ deadline_of c.args.moment.now.now (asked_expires c.args.ms) = c.deadline_of.ensures ∙ ap (deadline_of c.args.moment.now.now) c.asked_expires-expires.ensures in
    let made : c.new_activity-activity.result ≡ new_activity c.args.id c.args.id (deadline_of c.args.moment.now.now (asked_expires c.args.ms)) = c.new_activity-activity.ensures ∙ ap (new_activity c.args.id c.args.id) late in
    given c.beginning.result _ _
    (λ i. begun (beginning c.args.moment.now.base c.args.coordinator.now (c.asked_expires-expires.ensures i) None (made i)))
    c.beginning.ensures
