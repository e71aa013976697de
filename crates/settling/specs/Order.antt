-- Who registers first: a subordinate takes participants only behind its own registration, so registrations have an order.
use Rattle.std.specs.Prelude.{ℕ, List, [], ◌∷◌, ◌++◌, Option, Some, None, false, is_none, length, ◌&&◌, ◌≡◌, ◌<◌}
use Rattle.std.specs.List.{AllByRecursion}
use Rattle.at_base.specs.declared.epr.Epr.{Epr}
use Rattle.at_base.specs.declared.target.Seat.{Seat}
use Rattle.at_tables.specs.declared.cells.State.{State}
use Rattle.at_tables.specs.declared.cells.State.TheVariants as states
use Rattle.at_model.specs.Book.{Book, Phase, Superior, Transaction}
use Rattle.at_model.specs.World.{Accepted, Node, Who, World, WorldEvent, nth, run_of, Hosts, HaveOwnAddresses}
use Rattle.model_laws.specs.Agreement.{IsAccepted, IsIn}

-- A link that is Active knows its coordinator from the answer to its Register (WS-Coordination 1.2, section 3.2).
abbrev pub KnowsAt : State → Option Epr → Type 0
KnowsAt states.Active c = is_none c ≡ false
KnowsAt other c = Unit {0}

abbrev pub KnowsOne : Superior → Type 0
KnowsOne s = (is_none s.volatile.coordinator && is_none s.durable.coordinator) ≡ false

-- Past Registering a subordinate knows a coordinator, unless it aborted.
abbrev pub HasJoined : Phase → Superior → Type 0
HasJoined Phase.Registering s = Unit {0}
HasJoined Phase.Aborting s = Unit {0}
HasJoined other s = KnowsOne s

abbrev pub JoinsFirst : Phase → Option Superior → Type 0
JoinsFirst phase None = Unit {0}
JoinsFirst phase (Some s) = KnowsAt s.volatile.state s.volatile.coordinator × KnowsAt s.durable.state s.durable.coordinator × HasJoined phase s

abbrev pub AreJoined : Book → Type 0
AreJoined b = AllByRecursion (λ t. JoinsFirst t.phase t.superior) b.transactions

-- a registration at a seat of this transaction
abbrev pub IsSeatOf : Who → Accepted → Type 0
IsSeatOf t a = (s : Seat) × (a.seat ≡ Some s) × (a.transaction ≡ t)

-- A registration of the item stands in front of each that is at a seat of its own.
pub record RegistersFirst (w : World) (x : Who) : Type 0 where
  pub front : List Accepted
  pub registration : Accepted
  pub back : List Accepted
  pub stands : w.accepted ≡ front ++ registration ∷ back
  pub own : registration.participant ≡ Some x
  pub seat : Seat
  pub taken : registration.seat ≡ Some seat
  pub none_before : AllByRecursion (λ a. IsSeatOf x a → ⊥) front
  pub none_here : IsSeatOf x registration → ⊥

abbrev pub HasSome : {A : Type 0} → List A → Type 0
HasSome [] = ⊥
HasSome (x ∷ xs) = Unit {0}

-- In every run each subordinate that has participants has registered before the first of them; so where one has registered at
-- another, it has done so later than that one.
pub record SubordinatesRegisterFirst : Type 0 where
  pub runs : (hosts : Hosts) (es : List WorldEvent) (n : ℕ) (x : Node) (b : Book) (t : Transaction) → HaveOwnAddresses hosts → nth n (run_of hosts es).nodes ≡ Some x → x.book ≡ Some b
      → IsIn t b.transactions → is_none t.superior ≡ false → HasSome t.seats → RegistersFirst (run_of hosts es) (record { node = n; id = t.id })
  pub later : (hosts : Hosts) (es : List WorldEvent) (t x : Who) (s : Seat) (first : RegistersFirst (run_of hosts es) t) (second : RegistersFirst (run_of hosts es) x) → HaveOwnAddresses hosts
      → IsAccepted (run_of hosts es) t (Some s) x → length first.front < length second.front
