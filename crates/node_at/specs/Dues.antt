-- The items that are due, on their way.
use Rattle.std.specs.Prelude.{ℕ, List, [], ◌∷◌, ◌++◌, ◌≡◌, Option, None, Bool, true, false}
use Rattle.at_base.specs.declared.event.Item.{Item}
use Rattle.at_model.specs.Step.{Outcome, items_of}
use Rattle.interposition.specs.Due.{due_outcome, due_outcomes, items_behind}
use Rattle.site_model.specs.Told.{Told}
use Rattle.node_at.specs.Doings.{Doing, Ran}
use Rattle.node_at.specs.Refusals.{RanOne}
use Rattle.node_at.specs.State.{State}
use Rattle.node_at.specs.TurnText.{AreDue, DueSteps, IsOutcome, TurnStep}
use Rattle.node_at.specs.declared.due.DueEnd.{DueEnd}
use Rattle.node_at.specs.declared.due.DueEnd.TheVariants as ends

-- the step of one of them: it has no record
pub record DueOne (now : ℕ) (item : Item) (n m : State) (old new : Told) : Type 0 where
  pub step : TurnStep
  pub entry : step.entry ≡ None
  pub landed : step.landed ≡ true
  pub outcome : IsOutcome (due_outcome n.book now item) step
  pub one : RanOne step n m old new
  pub book : m.book ≡ (due_outcome n.book now item).book

-- it was done, or there was no memory
abbrev pub IsDueStep : Bool → ℕ → Item → State → State → Told → Told → Type 0
IsDueStep true now item n m old new = DueOne now item n m old new
IsDueStep false now item n m old new = m ≡ n

abbrev pub is_some_step : List TurnStep → Bool
is_some_step [] = false
is_some_step (s ∷ ss) = true

-- so many were asked, and what comes behind this one is left
pub record SoFar (now : ℕ) (after : Option Item) (came : Bool) (n m : State) (old new : Told) : Type 0 where
  pub steps : List TurnStep
  pub doings : List Doing
  pub done : List Outcome
  pub are : AreDue done steps
  pub all : done ++ due_outcomes now (items_behind m.book after) m.book ≡ due_outcomes now (items_of n.book) n.book
  pub ran : Ran [] steps doings n m old new
  pub some : came ≡ is_some_step steps

abbrev pub IsEnd : DueEnd → List TurnStep → List Outcome → Type 0
IsEnd ends.All steps left = left ≡ []
IsEnd (ends.NoRoom came) steps left = (left ≡ [] → ⊥) × (came ≡ is_some_step steps)

pub record DueRun (end : DueEnd) (now : ℕ) (n m : State) (old new : Told) : Type 0 where
  pub steps : List TurnStep
  pub doings : List Doing
  pub left : List Outcome
  pub due : DueSteps now n.book left steps
  pub ran : Ran [] steps doings n m old new
  pub ends : IsEnd end steps left
