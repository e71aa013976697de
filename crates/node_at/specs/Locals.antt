-- A request of the program that runs a node.
use Rattle.std.specs.Prelude.{ℕ, [], Option, Some, None, true, false, ◌≡◌, ◌⊎◌}
use Rattle.at_base.specs.Numbers.{Numbers}
use Rattle.at_base.specs.declared.event.Event.TheVariants as events
use Rattle.at_base.specs.declared.event.Local.{Local}
use Rattle.at_base.specs.declared.event.Local.TheVariants as locals
use Rattle.at_model.specs.Book.{Book, next_id}
use Rattle.at_model.specs.Step.{refuses}
use Rattle.completion_at.specs.Names.{refusal_of}
use Rattle.site_model.specs.Told.{Told, Apart, Still}
use Rattle.node_at.specs.declared.local.Locally.{Locally}
use Rattle.node_at.specs.declared.local.Locally.TheVariants as answers
use Rattle.node_at.specs.declared.step.Stepped.TheVariants as stepped
use Rattle.node_at.specs.State.{State}
use Rattle.node_at.specs.Steps.{Steps}

-- The activity that a request makes gets the next id; every other request names its own.
abbrev pub answered_id : Book → Local → Option Numbers
answered_id b (locals.Begin coordinator ms) = next_id b
answered_id b (locals.Interpose activity coordinator) = next_id b
answered_id b (locals.Work activity service kind vote key value) = Some activity
answered_id b (locals.Commit activity) = Some activity
answered_id b (locals.Rollback activity) = Some activity

-- whether a request makes an activity, and else the one that it names
abbrev pub named_by : Local → Option Numbers
named_by (locals.Begin coordinator ms) = None
named_by (locals.Interpose activity coordinator) = None
named_by (locals.Work activity service kind vote key value) = Some activity
named_by (locals.Commit activity) = Some activity
named_by (locals.Rollback activity) = Some activity

-- no effects yet
abbrev pub cleared : State → State
cleared n = record n { effects = [] }

-- the clock said that
abbrev pub IsTime : ℕ → Told → Type 0
IsTime now old = (t : ℕ) → old.clock ≡ Some t → now ≡ t

-- neither disk nor network was called
pub record Untouched (old new : Told) : Type 0 where
  pub still : Still old new
  pub apart : Apart old new
  pub counts : new.counts ≡ old.counts

-- A request is answered by one step of the model for it. It is refused where the model refuses it, and then does nothing.
-- A node that has halted before does nothing either.
abbrev pub Asked : Locally → State → State → Local → Told → Told → Type 0
Asked (answers.Done id) n m l old new =
    (n.halted ≡ false) × (refuses n.book l ≡ None) × (answered_id n.book l ≡ Some id)
    × ((now status : ℕ) × IsTime now old × Steps (stepped.Done status) (cleared n) m (events.Local l) now old new)
Asked (answers.Refused why) n m l old new = (n.halted ≡ false) × (refuses n.book l ≡ Some (refusal_of why)) × (m ≡ cleared n)
Asked answers.NoRoom n m l old new = (n.halted ≡ false) × (refuses n.book l ≡ None) × (m ≡ cleared n) × Untouched old new
Asked answers.Halted n m l old new =
    ((n.halted ≡ true) × (m ≡ cleared n))
    ⊎ ((n.halted ≡ false) × (refuses n.book l ≡ None) × ((now : ℕ) × IsTime now old × Steps stepped.Halted (cleared n) m (events.Local l) now old new))
