use Rattle.endpoints.specs.Addresses.{register_id}
use Rattle.at_posts.proofs.EqualAnswers.{given}
use Rattle.participant_at.proofs.posts.register_id.Goals as goal

pub returns : goal.returns
returns c =
    given c.register_id.result _ _ (λ i. register_id c.args.moment.now.base (c.target_of-own.ensures i)) c.register_id.ensures
