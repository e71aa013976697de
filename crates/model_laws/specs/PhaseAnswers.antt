-- A root decides and a subordinate votes only behind every answer: over whole steps of a book.
use Rattle.std.specs.Prelude.{ℕ, List, [], ◌∷◌, Option, Some, None, Bool, true, map, ◌≡◌, ◌⊎◌}
use Rattle.std.specs.List.{AllByRecursion}
use Rattle.at_base.specs.Numbers.{Numbers}
use Rattle.at_base.specs.declared.epr.Epr.{Epr}
use Rattle.at_base.specs.declared.notice.Kind.{Kind}
use Rattle.at_base.specs.declared.notice.Kind.TheVariants as kinds
use Rattle.at_base.specs.declared.record.Seated.{Seated}
use Rattle.at_base.specs.declared.record.Record.{Record}
use Rattle.at_base.specs.declared.record.Record.TheVariants as records
use Rattle.at_base.specs.declared.event.Event.{Event}
use Rattle.at_base.specs.declared.outs.Ending.TheVariants as endings
use Rattle.at_base.specs.declared.outs.Effect.TheVariants as effects
use Rattle.at_tables.specs.declared.cells.State.{State}
use Rattle.at_tables.specs.declared.cells.State.TheVariants as states
use Rattle.at_model.specs.Book.{Book, Transaction, Enlistment, Phase, transaction_id, put_by}
use Rattle.at_model.specs.Seats.{answered, in_state, moved, prepared}
use Rattle.at_model.specs.Step.{plan, step, transaction_at}
use Rattle.at_model.specs.Recovery.{recover}
use Rattle.model_laws.specs.Agreement.{IsIn}
use Rattle.model_laws.specs.Links.{IsLinked}

-- What a phase stands behind: the durable seats are asked once every volatile one has answered; a subordinate has voted,
-- and a transaction has decided, once every one has (WS-AtomicTransaction 1.2, sections 3.3.1 and 3.3.3).
abbrev pub StandsBehind : Phase → List Enlistment → Type 0
StandsBehind Phase.Registering seats = Unit {0}
StandsBehind Phase.Active seats = Unit {0}
StandsBehind Phase.Volatile seats = Unit {0}
StandsBehind Phase.Durable seats = answered kinds.Volatile seats ≡ true
StandsBehind Phase.Voted seats = (answered kinds.Volatile seats ≡ true) × (answered kinds.Durable seats ≡ true)
StandsBehind Phase.Committing seats = (answered kinds.Volatile seats ≡ true) × (answered kinds.Durable seats ≡ true)
StandsBehind Phase.Aborting seats = Unit {0}

-- Each transaction stands behind the answers that its phase wants, and its links are as its phase wants.
pub record IsInPhase (b : Book) : Type 0 where
  pub answers : AllByRecursion (λ t. StandsBehind t.phase t.seats) b.transactions
  pub links : IsLinked b

-- a participant as it was accepted: all of its seat but the state
pub record Accepted : Type 0 where
  pub number : ℕ
  pub kind : Kind
  pub participant : Epr

abbrev pub accepted_as : Enlistment → Accepted
accepted_as s = record { number = s.number; kind = s.kind; participant = s.participant }

-- it was asked, or is still to be asked
abbrev pub IsUnanswered : State → Type 0
IsUnanswered states.Active = Unit {0}
IsUnanswered states.Preparing = Unit {0}
IsUnanswered other = ⊥

-- The seats as they stand at a decision or a vote: all that the transaction accepted, each of them answered, where all but
-- one had answered before the step; and the record names the durable ones that are Prepared.
pub record AreAnswered (before at : List Enlistment) (named : List Seated) : Type 0 where
  -- the number of the seat that answered last
  pub last : ℕ
  pub others : AllByRecursion (λ s. (s.number ≡ last) ⊎ (IsUnanswered s.state → ⊥)) before
  pub accepted : map accepted_as at ≡ map accepted_as before
  pub volatile : answered kinds.Volatile at ≡ true
  pub durable : answered kinds.Durable at ≡ true
  pub prepared : named ≡ prepared at

-- the transaction is Committing, and every Prepared seat is told to commit
abbrev pub IsCommitting : List Enlistment → Option Transaction → Type 0
IsCommitting at None = ⊥
IsCommitting at (Some t) = (t.phase ≡ Phase.Committing) × (t.seats ≡ moved (in_state states.Prepared) states.Committing at)

-- What a decision that names these seats leaves of the transaction: where it names none, the transaction is over.
abbrev pub IsDecided : List Seated → List Enlistment → Numbers → Book → Book → Type 0
IsDecided [] at id before after = after.transactions ≡ put_by transaction_id id None before.transactions
IsDecided (s ∷ named) at id before after = IsCommitting at (transaction_at after id)

-- Where a Decided landed.
pub record HasDecided (before after : Book) (id : Numbers) (named : List Seated) : Type 0 where
  pub old : Transaction
  pub stood : transaction_at before id ≡ Some old
  pub at : List Enlistment
  pub behind : AreAnswered old.seats at named
  pub decided : IsDecided named at id before after

-- Where a Voted landed: the transaction has voted, and waits.
pub record HasVoted (before after : Transaction) (named : List Seated) : Type 0 where
  pub behind : AreAnswered before.seats after.seats named
  pub phase : after.phase ≡ Phase.Voted

-- Where a root commits.
pub record HasCommitted (b : Book) (id : Numbers) : Type 0 where
  pub old : Transaction
  pub stood : transaction_at b id ≡ Some old
  pub at : List Enlistment
  pub behind : AreAnswered old.seats at (prepared at)

-- one transaction before and after a step
pub record Passed (before after : Book) (id : Numbers) (P : Transaction → Transaction → Type 0) : Type 0 where
  pub old : Transaction
  pub new : Transaction
  pub stood : transaction_at before id ≡ Some old
  pub stands : transaction_at after id ≡ Some new
  pub passed : P old new

-- Over steps and recovery each transaction stays behind the answers of its phase; so a Decided or a Voted is made only
-- behind every answer, volatile and durable; and a root commits only behind every answer, also where nobody waits for its
-- decision.
pub record DecidesBehindEveryAnswer : Type 0 where
  pub book : (b : Book) (e : Event) (now : ℕ) (landed : Bool) → IsInPhase b → IsInPhase (step b e now landed).book
  pub recovered : (base : List ℕ) (rs : List Record) → IsInPhase (recover base rs)
  pub decided : (b : Book) (e : Event) (now : ℕ) (id : Numbers) (named : List Seated) → IsInPhase b → (plan b e now).entry ≡ Some (records.Decided id named)
      → HasDecided b (plan b e now).landed.book id named
  pub voted : (b : Book) (e : Event) (now : ℕ) (id : Numbers) (superior : Epr) (named : List Seated) → IsInPhase b → (plan b e now).entry ≡ Some (records.Voted id superior named)
      → Passed b (plan b e now).landed.book id (λ old new. HasVoted old new named)
  pub committed : (b : Book) (e : Event) (now : ℕ) (landed : Bool) (id : Numbers) → IsInPhase b → IsIn (effects.Root id endings.Committed) (step b e now landed).effects → HasCommitted b id
