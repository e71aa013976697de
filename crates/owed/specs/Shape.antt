-- How a transaction stands in each of its phases: the states of its seats, whom it waits for, what its links know, and what
-- its initiator asked.
use Rattle.std.specs.Prelude.{ℕ, List, [], ◌∷◌, Option, Some, None, Bool, true, false, is_none, ◌≡◌}
use Rattle.std.specs.List.{list_any, AllByRecursion}
use Rattle.at_base.specs.declared.epr.Epr.{Epr}
use Rattle.at_base.specs.declared.notice.Kind.{Kind}
use Rattle.at_base.specs.declared.notice.Kind.TheVariants as kinds
use Rattle.at_base.specs.declared.record.Record.{Record}
use Rattle.at_base.specs.declared.record.Record.TheVariants as records
use Rattle.at_base.specs.declared.event.Event.{Event}
use Rattle.at_tables.specs.declared.cells.State.{State}
use Rattle.at_tables.specs.declared.cells.State.TheVariants as states
use Rattle.at_tables.specs.Names.{is_state}
use Rattle.at_model.specs.Book.{Book, Completion, Enlistment, Phase, Request, Superior, Transaction}
use Rattle.at_model.specs.Seats.{in_state, is_of, is_prepared_durable}
use Rattle.at_model.specs.Recovery.{no_seats, recover}
use Rattle.at_model.specs.Step.{plan, step}
use Rattle.at_model.specs.World.{Node, World, WorldEvent, nth, run_of, Hosts}
use Rattle.model_laws.specs.PhaseAnswers.{IsInPhase}
use Rattle.model_laws.specs.ReachedWorlds.{Reached}
use Rattle.agreement.specs.FinishedTransactions.{AreFinished}

-- The states of volatile and of durable seats. Volatile participants are asked before the durable ones, and may still be
-- Prepared where a superior asked for the volatile ones alone (WS-AtomicTransaction 1.2, section 3.3.1).
abbrev pub seat_states : Phase → Kind → List State
seat_states Phase.Registering kind = []
seat_states Phase.Active kinds.Volatile = states.Active ∷ states.Prepared ∷ states.None ∷ []
seat_states Phase.Active kinds.Durable = states.Active ∷ states.None ∷ []
seat_states Phase.Volatile kinds.Volatile = states.Preparing ∷ states.Prepared ∷ states.None ∷ []
seat_states Phase.Volatile kinds.Durable = states.Active ∷ states.None ∷ []
seat_states Phase.Durable kinds.Volatile = states.Prepared ∷ states.None ∷ []
seat_states Phase.Durable kinds.Durable = states.Preparing ∷ states.Prepared ∷ states.None ∷ []
seat_states Phase.Voted kind = states.Prepared ∷ states.None ∷ []
seat_states Phase.Committing kind = states.Committing ∷ states.None ∷ []
seat_states Phase.Aborting kind = states.Aborting ∷ states.None ∷ []

abbrev pub suits : Phase → Kind → State → Bool
suits phase kind state = list_any (is_state state) (seat_states phase kind)

abbrev pub AreSuited : Phase → List Enlistment → Type 0
AreSuited phase seats = AllByRecursion (λ s. suits phase s.kind s.state ≡ true) seats

-- whom each phase waits for
abbrev pub Waits : Phase → List Enlistment → Type 0
Waits Phase.Registering seats = Unit {0}
Waits Phase.Active seats = Unit {0}
Waits Phase.Volatile seats = list_any (is_of kinds.Volatile states.Preparing) seats ≡ true
Waits Phase.Durable seats = list_any (is_of kinds.Durable states.Preparing) seats ≡ true
Waits Phase.Voted seats = list_any is_prepared_durable seats ≡ true
Waits Phase.Committing seats = list_any (is_of kinds.Durable states.Committing) seats ≡ true
Waits Phase.Aborting seats = list_any (in_state states.Aborting) seats ≡ true

-- the initiator's seat, where there is one, is in this state
abbrev pub IsSeatIn : State → Option Completion → Type 0
IsSeatIn state None = Unit {0}
IsSeatIn state (Some c) = c.state ≡ state

-- A root registers nowhere and votes for nobody, and it asks its participants once its initiator has asked it to commit
-- (WS-AtomicTransaction 1.2, section 3.2).
abbrev pub RootStands : Phase → Option Completion → Type 0
RootStands Phase.Registering c = ⊥
RootStands Phase.Active c = IsSeatIn states.Active c
RootStands Phase.Volatile c = IsSeatIn states.Completing c × (is_none c ≡ false)
RootStands Phase.Durable c = IsSeatIn states.Completing c × (is_none c ≡ false)
RootStands Phase.Voted c = ⊥
RootStands Phase.Committing c = IsSeatIn states.Done c
RootStands Phase.Aborting c = IsSeatIn states.None c

-- A link that registers doesn't know its coordinator, and its request is still to be answered; one that has registered
-- knows it, until it is answered for (WS-Coordination 1.2, section 3.2).
abbrev pub LinkKnows : Option Request → State → Option Epr → Type 0
LinkKnows request states.Registering coordinator = (coordinator ≡ None) × (is_none request ≡ false)
LinkKnows request states.Active coordinator = is_none coordinator ≡ false
LinkKnows request states.Preparing coordinator = is_none coordinator ≡ false
LinkKnows request states.PreparedSuccess coordinator = is_none coordinator ≡ false
LinkKnows request states.Committing coordinator = is_none coordinator ≡ false
LinkKnows request other coordinator = Unit {0}

abbrev pub LinksKnow : Superior → Type 0
LinksKnow s = LinkKnows s.request s.volatile.state s.volatile.coordinator × LinkKnows s.request s.durable.state s.durable.coordinator

abbrev pub StandsUnder : Phase → Option Superior → Option Completion → Type 0
StandsUnder phase None completion = RootStands phase completion
StandsUnder phase (Some s) completion = LinksKnow s

abbrev pub IsShaped : Transaction → Type 0
IsShaped t = AreSuited t.phase t.seats × (Waits t.phase t.seats × StandsUnder t.phase t.superior t.completion)

abbrev pub AreShaped : Book → Type 0
AreShaped b = AllByRecursion IsShaped b.transactions

-- a vote names somebody who is Prepared
abbrev pub NamesSomebody : Record → Type 0
NamesSomebody (records.Voted id superior seats) = no_seats seats ≡ false
NamesSomebody other = Unit {0}

-- Each step of a book as in every run keeps its transactions so, and records such votes; so does recovery from such votes.
-- So each transaction of every run stands so.
pub record BooksAreShaped : Type 0 where
  pub book : (b : Book) (e : Event) (now : ℕ) (landed : Bool) → IsInPhase b → AreFinished b → AreShaped b → AreShaped (step b e now landed).book
  pub entry : (b : Book) (e : Event) (now : ℕ) (r : Record) → IsInPhase b → AreFinished b → AreShaped b → (plan b e now).entry ≡ Some r → NamesSomebody r
  pub recovered : (base : List ℕ) (rs : List Record) → AllByRecursion NamesSomebody rs → AreShaped (recover base rs)
  pub reached : (hosts : Hosts) (w : World) → Reached hosts w → (n : ℕ) (x : Node) (b : Book) → nth n w.nodes ≡ Some x → x.book ≡ Some b → AreShaped b
  pub runs : (hosts : Hosts) (es : List WorldEvent) → (n : ℕ) (x : Node) (b : Book) → nth n (run_of hosts es).nodes ≡ Some x → x.book ≡ Some b → AreShaped b
