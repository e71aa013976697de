-- Bounds of a book: what it holds may stand in a record, so a record that a step makes is well-formed.
use Rattle.std.specs.Prelude.{ℕ, List, [], ◌∷◌, Option, Some, None, Bool, length, ◌+◌, ◌^◌, ◌≡◌, ◌≤◌, ◌<◌, ◌⊎◌}
use Rattle.std.specs.List.{AllByRecursion}
use Rattle.at_base.specs.declared.limits.TheConstants.{MOST_SEATS}
use Rattle.at_base.specs.Numbers.{Numbers}
use Rattle.at_base.specs.IdText.{IsId}
use Rattle.at_base.specs.WellFormed.{IsEndpoint, IsField, IsWellFormed}
use Rattle.at_base.specs.declared.epr.Epr.{Epr}
use Rattle.at_base.specs.declared.message.Message.{Message}
use Rattle.at_base.specs.declared.message.Message.TheVariants as messages
use Rattle.at_base.specs.declared.record.Record.{Record}
use Rattle.at_base.specs.declared.event.Event.{Event}
use Rattle.at_base.specs.declared.event.Event.TheVariants as events
use Rattle.at_tables.specs.declared.cells.State.{State}
use Rattle.at_tables.specs.declared.cells.State.TheVariants as states
use Rattle.at_model.specs.Book.{Book, Transaction, Leaf, Enlistment, Completion, Superior, Phase, last_counter}
use Rattle.at_model.specs.Step.{plan, step}
use Rattle.at_model.specs.Recovery.{last_incarnation, recover}
use Rattle.model_laws.specs.DrawnIds.{LifeEvent, Stepped, Stopped, Started, newborn, restarted, life_of}

-- What decoding bounds: the endpoint of a participant (WS-Coordination 1.2, section 3.2) and that of a coordinator, and
-- the key and the value of a Work.
abbrev pub IsSoundMessage : Message → Type 0
IsSoundMessage (messages.Register r) = IsEndpoint r.participant
IsSoundMessage (messages.RegisterResponse coordinator) = IsEndpoint coordinator
IsSoundMessage (messages.Work w) = IsField w.key × IsField w.value
IsSoundMessage other = Unit {0}

abbrev pub IsSoundEvent : Event → Type 0
IsSoundEvent (events.Arrived a) = IsSoundMessage a.message
IsSoundEvent (events.Local l) = Unit {0}
IsSoundEvent (events.Due item) = Unit {0}
IsSoundEvent events.Tick = Unit {0}

-- an endpoint that is known
abbrev pub IfKnown : Option Epr → Type 0
IfKnown None = Unit {0}
IfKnown (Some endpoint) = IsEndpoint endpoint

pub record KnowsLinks (s : Superior) : Type 0 where
  pub volatile : IfKnown s.volatile.coordinator
  pub durable : IfKnown s.durable.coordinator

abbrev pub KnowsSuperior : Option Superior → Type 0
KnowsSuperior None = Unit {0}
KnowsSuperior (Some s) = KnowsLinks s

-- numbered 1, 2, .. in the order of registration, from behind this number on
abbrev pub AreNumbered : ℕ → List Enlistment → Type 0
AreNumbered last [] = Unit {0}
AreNumbered last (s ∷ rest) = (s.number ≡ last + 1) × AreNumbered (last + 1) rest

-- each number is greater than the one before
abbrev pub SeatsRise : ℕ → List Enlistment → Type 0
SeatsRise last [] = Unit {0}
SeatsRise last (s ∷ rest) = (last < s.number) × SeatsRise s.number rest

-- A phase in which a transaction asks nobody any more.
abbrev pub IsPastAsking : Phase → Type 0
IsPastAsking Phase.Registering = ⊥
IsPastAsking Phase.Active = ⊥
IsPastAsking Phase.Volatile = ⊥
IsPastAsking Phase.Durable = ⊥
IsPastAsking Phase.Voted = Unit {0}
IsPastAsking Phase.Committing = Unit {0}
IsPastAsking Phase.Aborting = Unit {0}

-- A link on which no Prepare is waited for.
abbrev pub IsPastPrepare : State → Type 0
IsPastPrepare states.None = Unit {0}
IsPastPrepare states.PreparedSuccess = Unit {0}
IsPastPrepare states.Committing = Unit {0}
IsPastPrepare other = ⊥

abbrev pub ArePastPrepare : Option Superior → Type 0
ArePastPrepare None = Unit {0}
ArePastPrepare (Some s) = IsPastPrepare s.volatile.state × IsPastPrepare s.durable.state

-- A transaction that was recovered has the seats that its record names. It asks nobody and takes no registration any
-- more, so their numbers need no more than to rise.
pub record IsSealed (phase : Phase) (superior : Option Superior) (completion : Option Completion) (seats : List Enlistment) : Type 0 where
  pub rise : SeatsRise 0 seats
  pub past_asking : IsPastAsking phase
  pub links : ArePastPrepare superior
  pub no_initiator : completion ≡ None

-- the bounds of what a transaction holds
pub record IsBounded (id : Numbers) (superior : Option Superior) (seats : List Enlistment) : Type 0 where
  pub own : IsId id
  pub known : KnowsSuperior superior
  pub most : length seats ≤ MOST_SEATS
  pub participants : AllByRecursion (λ s. IsEndpoint s.participant) seats

pub record IsSoundTransaction (t : Transaction) : Type 0 where
  pub bounds : IsBounded t.id t.superior t.seats
  pub numbers : AreNumbered 0 t.seats ⊎ IsSealed t.phase t.superior t.completion t.seats

pub record IsSoundLeaf (l : Leaf) : Type 0 where
  pub id : IsId l.id
  pub coordinator : IfKnown l.coordinator
  pub key : IsField l.key
  pub value : IsField l.value

pub record IsSound (b : Book) : Type 0 where
  pub incarnation_least : 1 ≤ b.incarnation
  pub incarnation_most : b.incarnation < 2 ^ 32
  pub transactions : AllByRecursion IsSoundTransaction b.transactions
  pub leaves : AllByRecursion IsSoundLeaf b.leaves

abbrev pub AreSoundEvents : List LifeEvent → Type 0
AreSoundEvents [] = Unit {0}
AreSoundEvents (Stepped e now landed ∷ rest) = IsSoundEvent e × AreSoundEvents rest
AreSoundEvents (Stopped ∷ rest) = AreSoundEvents rest
AreSoundEvents (Started landed ∷ rest) = AreSoundEvents rest

-- A step of a sound book over a sound event makes a well-formed record and leaves a sound book; so does a start behind
-- well-formed records; and so the journal of a node holds well-formed records alone.
pub record RecordsAreWellFormed : Type 0 where
  pub entry : (b : Book) (e : Event) (now : ℕ) (r : Record) → IsSound b → IsSoundEvent e → (plan b e now).entry ≡ Some r → IsWellFormed r
  pub book : (b : Book) (e : Event) (now : ℕ) (landed : Bool) → IsSound b → IsSoundEvent e → IsSound (step b e now landed).book
  pub recovered : (base : List ℕ) (rs : List Record) → AllByRecursion IsWellFormed rs → 1 ≤ last_incarnation rs → last_incarnation rs ≤ last_counter → IsSound (recover base rs)
  pub restart : (rs : List Record) → AllByRecursion IsWellFormed rs → AllByRecursion IsWellFormed (restarted rs)
  pub journal : (base : List ℕ) (es : List LifeEvent) → AreSoundEvents es → AllByRecursion IsWellFormed (life_of base es newborn).journal
