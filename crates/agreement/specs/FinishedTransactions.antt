-- What a transaction has behind it in its later phases: an abort leaves nobody asked, an end leaves no initiator that may
-- still ask, and its participants keep their numbers.
use Rattle.std.specs.Prelude.{ℕ, List, Bool, Some, true, false, ◌≡◌, ◌⊎◌}
use Rattle.std.specs.List.{AllByRecursion}
use Rattle.at_base.specs.WellFormed.{Rises}
use Rattle.at_base.specs.declared.notice.Kind.TheVariants as kinds
use Rattle.at_base.specs.declared.event.Event.{Event}
use Rattle.at_base.specs.declared.record.Record.{Record}
use Rattle.at_base.specs.declared.record.Record.TheVariants as records
use Rattle.at_tables.specs.declared.cells.State.TheVariants as states
use Rattle.at_model.specs.Book.{Book, Completion, Phase, Transaction}
use Rattle.at_model.specs.Due.{may_expire}
use Rattle.at_model.specs.Recovery.{recover}
use Rattle.at_model.specs.Seats.{answered}
use Rattle.at_model.specs.Step.{plan, step}
use Rattle.at_model.specs.World.{Node, WorldEvent, nth, run_of, Hosts}
use Rattle.model_laws.specs.PhaseAnswers.{IsInPhase}
use Rattle.model_laws.specs.BookBounds.{AreNumbered, SeatsRise}

pub record IsFinished (t : Transaction) : Type 0 where
  -- an abort asks everybody to roll back (WS-AtomicTransaction 1.2, section 3.3.3)
  pub asked : t.phase ≡ Phase.Aborting → (answered kinds.Volatile t.seats ≡ true) × (answered kinds.Durable t.seats ≡ true)
  -- an initiator may complete only what is undecided (section 3.2)
  pub initiator : (c : Completion) → t.completion ≡ Some c → c.state ≡ states.Active → may_expire t.phase ≡ true
  -- seats are numbered from 1 in the order of registration; those of a recovered transaction rise
  pub numbers : AreNumbered 0 t.seats ⊎ ((may_expire t.phase ≡ false) × SeatsRise 0 t.seats)

abbrev pub AreFinished : Book → Type 0
AreFinished b = AllByRecursion IsFinished b.transactions

-- the seats that a vote or a decision names rise by number
abbrev pub NamesRising : Record → Type 0
NamesRising (records.Voted id superior seats) = Rises 0 seats
NamesRising (records.Decided id seats) = Rises 0 seats
NamesRising other = Unit {0}

-- So is each transaction, over each start behind such records and over each step of a book whose subordinates have no
-- initiator of their own, as in every run; and such is each record. So both hold in every run.
pub record FinishesAll : Type 0 where
  pub book : (b : Book) (e : Event) (now : ℕ) (landed : Bool) → IsInPhase b → AreFinished b → AreFinished (step b e now landed).book
  pub entry : (b : Book) (e : Event) (now : ℕ) (r : Record) → AreFinished b → (plan b e now).entry ≡ Some r → NamesRising r
  pub recovered : (base : List ℕ) (rs : List Record) → AllByRecursion NamesRising rs → AreFinished (recover base rs)
  pub journals : (hosts : Hosts) (es : List WorldEvent) (n : ℕ) (x : Node) → nth n (run_of hosts es).nodes ≡ Some x → AllByRecursion NamesRising x.journal
  pub books : (hosts : Hosts) (es : List WorldEvent) (n : ℕ) (x : Node) (b : Book) → nth n (run_of hosts es).nodes ≡ Some x → x.book ≡ Some b → AreFinished b
