use Rattle.std.proofs.Common.{◌≡◌, ◌∙◌, ap}
use Rattle.at_base.specs.declared.message.Message.TheVariants as messages
use Rattle.at_model.specs.Activities.{activity_target}
use Rattle.endpoints.specs.Addresses.{work_id}
use Rattle.at_model.specs.Posts.{request_post}
use Rattle.completion_at.specs.ActivityPlans.{nth_work}
use Rattle.at_posts.proofs.EqualAnswers.{given}
use Rattle.completion_at.proofs.requests.nth_work.Goals as goal

pub returns : goal.returns
unfolding nth_work
returns c =
    let named : c.in_ok-id.id ≡ work_id c.args.moment.now.base (activity_target c.args.activity.now) c.args.n = c.in_ok-id.ensures ∙ ap (λ own. work_id c.args.moment.now.base own c.args.n) c.target_of-own.ensures in
    given c.request_post.result _ _
    (λ i. request_post c.args.moment.now.base (c.target_of-own.ensures i) (c.in_ok-to.ensures i) (named i) (messages.Work c.args.work))
    c.request_post.ensures
