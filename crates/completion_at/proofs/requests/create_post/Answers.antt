use Rattle.std.proofs.Common.{◌≡◌, ◌∙◌, ap}
use Rattle.at_base.specs.declared.message.Message.TheVariants as messages
use Rattle.at_model.specs.Activities.{activity_target}
use Rattle.endpoints.specs.Addresses.{create_id}
use Rattle.at_model.specs.Posts.{request_post}
use Rattle.at_posts.proofs.EqualAnswers.{given}
use Rattle.completion_at.proofs.requests.create_post.Goals as goal

pub returns : goal.returns
returns c =
    let named : c.in_ok-id.id ≡ create_id c.args.moment.now.base (activity_target c.args.activity.now) = c.in_ok-id.ensures ∙ ap (create_id c.args.moment.now.base) c.target_of-own.ensures in
    given c.request_post.result _ _
    (λ i. request_post c.args.moment.now.base (c.target_of-own.ensures i) (c.in_ok-to.ensures i) (named i) (messages.Create (c.in_ok-create.ensures i)))
    c.request_post.ensures
