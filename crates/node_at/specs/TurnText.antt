-- What a node does for one connection: a step for its request, and then one for each item that is due.
use Rattle.std.specs.Prelude.{ℕ, List, [], ◌∷◌, ◌++◌, ◌≡◌, Option, None, Bool, true}
use Rattle.at_base.specs.declared.event.Event.{Event}
use Rattle.at_base.specs.declared.outs.Effect.{Effect}
use Rattle.at_base.specs.declared.outs.Out.TheVariants as outs
use Rattle.at_base.specs.declared.record.Record.{Record}
use Rattle.at_model.specs.Book.{Book}
use Rattle.at_model.specs.Step.{Outcome, items_of, plan, step}
use Rattle.http_post.specs.OutBytes.{answer_of}
use Rattle.interposition.specs.Due.{due_outcomes}
use Rattle.site_model.specs.Told.{Call}
use Rattle.node_at.specs.Meanings.{Hears, Meaning}
use Rattle.node_at.specs.Meanings.Meaning.{Refused, Steps, Lost, Unread}
use Rattle.node_at.specs.Steps.{status_in}
use Rattle.node_at.specs.Texts.{AreLeaving, Leaving}
use Rattle.node_at.specs.declared.role.Role.{Role}

-- A step: the record that is appended first, if there is one, and whether it landed; the calls by which its outs leave; the
-- book behind it, and what came.
pub record TurnStep : Type 0 where
  pub entry : Option Record
  pub landed : Bool
  pub leaving : List Leaving
  pub behind : Book
  pub came : List Effect

-- the outs of the model with their bytes
pub record IsOutcome (o : Outcome) (s : TurnStep) : Type 0 where
  pub leaving : AreLeaving o.outs s.leaving
  pub behind : s.behind ≡ o.book
  pub came : s.came ≡ o.effects

-- the model's step of an event
pub record IsStep (b : Book) (e : Event) (now : ℕ) (s : TurnStep) : Type 0 where
  pub entry : s.entry ≡ (plan b e now).entry
  pub outcome : IsOutcome (step b e now s.landed) s

-- the answer to a request that is refused
abbrev pub answered : ℕ → Option (List ℕ) → Leaving
answered status text = record { out = outs.Answer status None; call = Call.Send (answer_of status text) }

-- A refusal changes nothing: its one out is its answer.
abbrev pub refusing : Book → ℕ → Option (List ℕ) → TurnStep
refusing b status text = record { entry = None; landed = true; leaving = answered status text ∷ []; behind = b; came = [] }

-- the step of the request, and the status that it is answered with
abbrev pub IsFirst : Book → ℕ → Meaning → TurnStep → ℕ → Type 0
IsFirst b now (Refused status text) s answers = (s ≡ refusing b status text) × (answers ≡ status)
IsFirst b now (Steps e) s answers = IsStep b e now s × (answers ≡ status_in (step b e now s.landed).outs)
IsFirst b now Lost s answers = ⊥
IsFirst b now Unread s answers = ⊥

-- the steps of items that were due, none of which has a record
abbrev pub AreDue : List Outcome → List TurnStep → Type 0
AreDue [] [] = Unit {0}
AreDue [] (s ∷ ss) = ⊥
AreDue (o ∷ os) [] = ⊥
AreDue (o ∷ os) (s ∷ ss) = (s.entry ≡ None) × (s.landed ≡ true) × IsOutcome o s × AreDue os ss

-- Of the items that the book holds, those that are due, each asked when its place comes: these steps, and what is left.
pub record DueSteps (now : ℕ) (b : Book) (left : List Outcome) (steps : List TurnStep) : Type 0 where
  pub done : List Outcome
  pub are : AreDue done steps
  pub all : done ++ left ≡ due_outcomes now (items_of b) b

-- The steps, the status answered, and what is left of the items that are due. Where the connection failed there is no
-- answer, and what is due is done.
pub data Steppings (now : ℕ) (b : Book) (left : List Outcome) : Meaning → List TurnStep → ℕ → Type 0 where
  unasked : {steps : List TurnStep} → DueSteps now b left steps → Steppings now b left Lost steps 0
  asked : {meaning : Meaning} {status : ℕ} {steps : List TurnStep} (first : TurnStep) (rest : List TurnStep) → IsFirst b now meaning first status
      → DueSteps now first.behind left rest → steps ≡ first ∷ rest → Steppings now b left meaning steps status

-- What a node of a role does for a connection that brings these bytes, at a time of its clock, in milliseconds: the steps and
-- the status answered. Of a connection that doesn't tell its bytes it is only known that they ask for something.
pub record TurnText (role : Role) (input : Option (List ℕ)) (now : ℕ) (b : Book) (left : List Outcome) (steps : List TurnStep) (status : ℕ) : Type 0 where
  pub meaning : Meaning
  pub heard : Hears role input meaning
  pub turns : Steppings now b left meaning steps status
