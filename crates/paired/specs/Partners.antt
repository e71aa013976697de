-- Who works with whom: a seat knows its participant's endpoint, and a participant that of the seat at which it was accepted.
use Rattle.std.specs.Prelude.{ℕ, List, Option, Some, None, true, ◌^◌, ◌≡◌, ◌<◌, ◌≤◌}
use Rattle.std.specs.List.{AllByRecursion}
use Rattle.at_base.specs.IdText.{IsId}
use Rattle.at_base.specs.declared.epr.Epr.{Epr}
use Rattle.at_base.specs.declared.notice.Kind.{Kind}
use Rattle.at_base.specs.declared.target.Target.TheVariants as targets
use Rattle.at_tables.specs.declared.cells.State.TheVariants as states
use Rattle.endpoints.specs.Addresses.{endpoint_of}
use Rattle.at_model.specs.Book.{Book, Enlistment, Leaf, Transaction}
use Rattle.at_model.specs.Due.{may_expire}
use Rattle.at_model.specs.Step.{leaf_at, transaction_at}
use Rattle.at_model.specs.World.{Node, Who, World, nth, Hosts, HaveOwnAddresses}
use Rattle.model_laws.specs.ReachedWorlds.{Reached}
use Rattle.model_laws.specs.Agreement.{HasCommitted, IsIn}
use Rattle.agreement.specs.Deeds.{coordinator_at}
use Rattle.enlistments.specs.Leads.{Enlists}
use Rattle.votes.specs.NamedParticipants.{HasSeat}
use Rattle.votes.specs.DurableVotes.{HasVoted}

-- the endpoints that a node writes for a participant, and for a seat
abbrev pub participant_of : Hosts → Who → Kind → Epr
participant_of hosts x kind = endpoint_of (hosts.base_of x.node) (targets.Participant x.id kind)

abbrev pub seat_of : Hosts → Who → ℕ → Kind → Epr
seat_of hosts t number kind = endpoint_of (hosts.base_of t.node) (targets.Coordinator t.id (record { number = number; kind = kind }))

-- an item of a node of a world of so many nodes, whose id a path can name
pub record IsPlace (hosts : Hosts) (x : Who) : Type 0 where
  pub least : 1 ≤ x.node
  pub most : x.node ≤ hosts.count
  pub id : IsId x.id

-- the endpoint is that of a participant of this kind
pub record IsParticipant (hosts : Hosts) (kind : Kind) (e : Epr) : Type 0 where
  pub who : Who
  pub place : IsPlace hosts who
  pub is : e ≡ participant_of hosts who kind

-- the endpoint is that of a seat of this kind
pub record IsSeat (hosts : Hosts) (kind : Kind) (e : Epr) : Type 0 where
  pub transaction : Who
  pub number : ℕ
  pub place : IsPlace hosts transaction
  pub least : 1 ≤ number
  pub most : number < 2 ^ 16
  pub is : e ≡ seat_of hosts transaction number kind

abbrev pub IsSeatIfKnown : Hosts → Kind → Option Epr → Type 0
IsSeatIfKnown hosts kind None = Unit {0}
IsSeatIfKnown hosts kind (Some e) = IsSeat hosts kind e

abbrev pub AreParticipants : Hosts → List Enlistment → Type 0
AreParticipants hosts seats = AllByRecursion (λ s. IsParticipant hosts s.kind s.participant) seats

-- No transaction has two seats for one participant; a seat's participant is one, and a coordinator that a participant knows is
-- a seat.
pub record IsPaired (hosts : Hosts) (w : World) : Type 0 where
  pub one_seat : (t x : Who) (kind : Kind) (k j : ℕ) → HasSeat w t k kind x → HasSeat w t j kind x → k ≡ j
  pub seats : (n : ℕ) (x : Node) (b : Book) (t : Transaction) → nth n w.nodes ≡ Some x → x.book ≡ Some b → IsIn t b.transactions → AreParticipants hosts t.seats
  pub links : (n : ℕ) (x : Node) (b : Book) (t : Transaction) (kind : Kind) → nth n w.nodes ≡ Some x → x.book ≡ Some b → IsIn t b.transactions
      → IsSeatIfKnown hosts kind (coordinator_at kind t.superior)
  pub leaves : (n : ℕ) (x : Node) (b : Book) (l : Leaf) → nth n w.nodes ≡ Some x → x.book ≡ Some b → IsIn l b.leaves → IsSeatIfKnown hosts l.kind l.coordinator
  -- who sits at a seat is who was accepted there
  pub seat_is : (n : ℕ) (x : Node) (b : Book) (t : Transaction) (s : Enlistment) (y : Who) → nth n w.nodes ≡ Some x → x.book ≡ Some b → IsIn t b.transactions → IsIn s t.seats
      → HasSeat w (record { node = n; id = t.id }) s.number s.kind y → s.participant ≡ participant_of hosts y s.kind
  pub seat_has : (n : ℕ) (x : Node) (b : Book) (t : Transaction) (s : Enlistment) (y : Who) → nth n w.nodes ≡ Some x → x.book ≡ Some b → IsIn t b.transactions → IsIn s t.seats → IsPlace hosts y
      → s.participant ≡ participant_of hosts y s.kind → HasSeat w (record { node = n; id = t.id }) s.number s.kind y
  -- a coordinator that a participant knows is the seat at which it was accepted
  pub known_has : (c : Epr) (x : Who) (kind : Kind) (h : IsSeat hosts kind c) → Enlists hosts w c x kind → HasSeat w h.transaction h.number kind x
  pub known_is : (c : Epr) (t x : Who) (number : ℕ) (kind : Kind) → IsSeat hosts kind c → Enlists hosts w c x kind → HasSeat w t number kind x → c ≡ seat_of hosts t number kind

-- What records and outcomes say of the items of a book.
pub record HaveVotes (w : World) (n : ℕ) (b : Book) : Type 0 where
  -- no leaf has the id of a transaction
  pub alone : (l : Leaf) → leaf_at b l.id ≡ Some l → transaction_at b l.id ≡ None
  -- who may still expire hasn't committed, and hasn't voted
  pub undecided : (t : Transaction) → transaction_at b t.id ≡ Some t → may_expire t.phase ≡ true → HasCommitted w (record { node = n; id = t.id }) → ⊥
  pub unvoted : (t : Transaction) → transaction_at b t.id ≡ Some t → may_expire t.phase ≡ true → HasVoted w (record { node = n; id = t.id }) → ⊥
  -- a leaf that has voted Prepared waits for the outcome
  pub prepared : (l : Leaf) → leaf_at b l.id ≡ Some l → HasVoted w (record { node = n; id = l.id }) → l.state ≡ states.PreparedSuccess

-- So it is in every world that is reached.
pub record PartnersArePaired : Type 0 where
  pub paired : (hosts : Hosts) (w : World) → HaveOwnAddresses hosts → Reached hosts w → IsPaired hosts w
  pub votes : (hosts : Hosts) (w : World) → HaveOwnAddresses hosts → Reached hosts w → (n : ℕ) (x : Node) (b : Book) → nth n w.nodes ≡ Some x → x.book ≡ Some b → HaveVotes w n b
