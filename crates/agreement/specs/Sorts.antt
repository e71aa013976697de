-- Each id names an item of one sort.
use Rattle.std.specs.Prelude.{ℕ, List, Option, Some, None, ◌≡◌, ◌⊎◌}
use Rattle.std.specs.List.{AllByRecursion}
use Rattle.at_base.specs.Numbers.{Numbers}
use Rattle.at_base.specs.declared.notice.Kind.{Kind}
use Rattle.at_base.specs.declared.notice.Kind.TheVariants as kinds
use Rattle.at_base.specs.IdText.{IsId}
use Rattle.at_base.specs.declared.target.Seat.{Seat}
use Rattle.at_base.specs.declared.target.Target.{Target}
use Rattle.at_base.specs.declared.target.Target.TheVariants as targets
use Rattle.at_base.specs.declared.record.Record.{Record}
use Rattle.at_base.specs.declared.record.Record.TheVariants as records
use Rattle.at_base.specs.declared.outs.Effect.{Effect}
use Rattle.at_base.specs.declared.outs.Effect.TheVariants as effects
use Rattle.at_model.specs.Book.{Book, Superior}
use Rattle.at_model.specs.World.{Node, Who, Accepted, World, WorldEvent, nth, run_of, Hosts, HaveOwnAddresses, IsNumber}
use Rattle.agreement.specs.Registers.{HasDrawn, IsWhose}

-- What an id names: nothing yet; a root transaction or a subordinate one; a participant of this kind that does work of its
-- own; or an initiator's activity, begun or interposed.
pub data Sort : Type 0 where
  Unmade : Sort
  Root : Sort
  Subordinate : Sort
  LeafOf : Kind → Sort
  Begun : Sort

-- a transaction is a subordinate where it has a superior
abbrev pub sort_under : Option Superior → Sort
sort_under None = Root
sort_under (Some s) = Subordinate

abbrev pub IsTransaction : Sort → Type 0
IsTransaction S = (S ≡ Root) ⊎ (S ≡ Subordinate)

-- a participant of this kind, which registers: a subordinate on one of its links, or one that does work of its own
abbrev pub IsParticipant : Kind → Sort → Type 0
IsParticipant kind S = (S ≡ Subordinate) ⊎ (S ≡ LeafOf kind)

-- whose a target is that registers
abbrev pub FitsTarget : (Numbers → Sort) → Target → Type 0
FitsTarget s (targets.Participant id kind) = IsParticipant kind (s id)
FitsTarget s (targets.Initiator id) = s id ≡ Begun
FitsTarget s other = Unit {0}

-- who is accepted, where its endpoint leads anywhere: a participant of the seat's kind, or an initiator at the completion seat
abbrev pub FitsParticipant : (ℕ → Numbers → Sort) → Option Who → Option Seat → Type 0
FitsParticipant sort None seat = Unit {0}
FitsParticipant sort (Some x) (Some s) = IsParticipant s.kind (sort x.node x.id)
FitsParticipant sort (Some x) None = sort x.node x.id ≡ Begun

abbrev pub FitsAccepted : (ℕ → Numbers → Sort) → Accepted → Type 0
FitsAccepted sort acc = IsTransaction (sort acc.transaction.node acc.transaction.id) × FitsParticipant sort acc.participant acc.seat

-- what is in a book
pub record FitsBook (s : Numbers → Sort) (b : Book) : Type 0 where
  pub transactions : AllByRecursion (λ t. s t.id ≡ sort_under t.superior) b.transactions
  pub leaves : AllByRecursion (λ l. s l.id ≡ LeafOf l.kind) b.leaves
  pub activities : AllByRecursion (λ a. s a.id ≡ Begun) b.activities

-- What a record is about: subordinates vote, roots decide, and durable participants alone have records of their own
-- (WS-AtomicTransaction 1.2, section 3.3.3).
abbrev pub FitsRecord : (Numbers → Sort) → Record → Type 0
FitsRecord s (records.Voted id superior seats) = s id ≡ Subordinate
FitsRecord s (records.SubCommitted id) = s id ≡ Subordinate
FitsRecord s (records.Decided id seats) = s id ≡ Root
FitsRecord s (records.Done id) = s id ≡ Root
FitsRecord s (records.Ended id) = IsTransaction (s id)
FitsRecord s (records.LeafPrepared id coordinator key value) = s id ≡ LeafOf kinds.Durable
FitsRecord s (records.LeafCommitted id) = s id ≡ LeafOf kinds.Durable
FitsRecord s (records.LeafAborted id) = s id ≡ LeafOf kinds.Durable
FitsRecord s (records.Start incarnation) = Unit {0}

-- what ended
abbrev pub FitsEffect : (Numbers → Sort) → Effect → Type 0
FitsEffect s (effects.Root id what) = s id ≡ Root
FitsEffect s (effects.Sub id what) = s id ≡ Subordinate
FitsEffect s (effects.Leaf id kind what) = s id ≡ LeafOf kind
FitsEffect s (effects.Told id what) = s id ≡ Begun

abbrev pub FitsIfUp : (Numbers → Sort) → Option Book → Type 0
FitsIfUp s None = Unit {0}
FitsIfUp s (Some b) = FitsBook s b

-- a node's records and its book, and no id that it hasn't drawn
pub record FitsNode (s : Numbers → Sort) (x : Node) : Type 0 where
  pub journal : AllByRecursion (FitsRecord s) x.journal
  pub book : FitsIfUp s x.book
  pub undrawn : (id : Numbers) → (HasDrawn x.journal x.book id → ⊥) → s id ≡ Unmade

-- the sorts of the ids of each node, with which all agrees that is in the books and in the records, that happened,
-- that registers, and that was accepted
pub record AreSorted (hosts : Hosts) (w : World) : Type 0 where
  pub sort : ℕ → Numbers → Sort
  pub nodes : (n : ℕ) (x : Node) → nth n w.nodes ≡ Some x → FitsNode (sort n) x
  pub happened : AllByRecursion (λ h. FitsEffect (sort h.node) h.what) w.happened
  pub posted : AllByRecursion (λ p. IsWhose (λ own id. FitsTarget (sort p.sender) own × (IsId id × IsNumber hosts p.sender)) (hosts.base_of p.sender) p.content) w.posted
  pub accepted : AllByRecursion (FitsAccepted sort) w.accepted

-- In every run each id names an item of one sort, over every crash and start: a root is never a subordinate, and no
-- transaction is a participant that does work of its own, or an activity.
abbrev pub SortsAgree : Type 0
SortsAgree = (hosts : Hosts) (es : List WorldEvent) → HaveOwnAddresses hosts → AreSorted hosts (run_of hosts es)
