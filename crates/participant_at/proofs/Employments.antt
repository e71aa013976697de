-- A leaf that equals the new one is employed as the new one is.
use Rattle.std.proofs.Common.{List, [], ◌∷◌, ◌++◌, ◌≡◌, subst}
use Rattle.at_base.specs.declared.epr.Epr.{Epr}
use Rattle.at_base.specs.declared.event.Arrived.{Arrived}
use Rattle.at_base.specs.declared.event.Moment.{Moment}
use Rattle.at_base.specs.declared.outs.Out.{Out}
use Rattle.at_base.specs.declared.outs.Out.TheVariants as outs
use Rattle.at_model.specs.Book.{Leaf}
use Rattle.at_model.specs.Leaves.{leaf_register, employ}
use Rattle.at_model.specs.Posts.{accepted}
use Rattle.by_id.specs.Plans.{making}
use Rattle.participant_at.specs.LeafPlans.{employed}

pub employs :
    (m : Moment) (a : Arrived) (l made : Leaf) (to : Epr) (sent : List Out) → made ≡ l
    → sent ≡ accepted ++ outs.Post (leaf_register m made to) ∷ [] → making made sent ≡ employed (employ m a l to)
employs m a l made to sent e f =
    let same : sent ≡ accepted ++ outs.Post (leaf_register m l to) ∷ [] = subst (λ x. sent ≡ accepted ++ outs.Post (leaf_register m x to) ∷ []) e f in
    λ i. making (e i) (same i)
