-- A request that is refused.
use Rattle.std.specs.Prelude.{ℕ, List, [], ◌∷◌, ◌≡◌, Option, Bool, true, false}
use Rattle.site_model.specs.Told.{Told}
use Rattle.node_at.specs.Doings.{Doing, Ran}
use Rattle.node_at.specs.State.{State}
use Rattle.node_at.specs.TurnText.{TurnStep, refusing}

-- a step alone
pub record RanOne (s : TurnStep) (n m : State) (old new : Told) : Type 0 where
  pub doing : Doing
  pub ran : Ran [] (s ∷ []) (doing ∷ []) n m old new

-- it was answered, or there was no memory; the node stays as it was
abbrev pub Refuses : Bool → ℕ → Option (List ℕ) → State → State → Told → Told → Type 0
Refuses true status text n m old new = (m ≡ n) × RanOne (refusing n.book status text) n m old new
Refuses false status text n m old new = m ≡ n
