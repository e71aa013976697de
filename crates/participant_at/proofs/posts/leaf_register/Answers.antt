use Rattle.at_model.specs.Posts.{register_post}
use Rattle.at_posts.proofs.EqualAnswers.{given}
use Rattle.participant_at.proofs.posts.leaf_register.Goals as goal

pub returns : goal.returns
returns c =
    given c.register_post.result _ _
    (λ i. register_post c.args.moment.now.base (c.target_of-own.ensures i) (c.leaf_protocol.ensures i) c.args.to.now)
    c.register_post.ensures
