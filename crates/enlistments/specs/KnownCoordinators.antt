-- What a node's items know of whom they work with: their coordinators, and where notifications lead.
use Rattle.std.specs.Prelude.{ℕ, List, Some, None, ◌≡◌, ◌⊎◌}
use Rattle.std.specs.List.{AllByRecursion}
use Rattle.at_base.specs.Numbers.{Numbers}
use Rattle.at_base.specs.declared.epr.Epr.{Epr}
use Rattle.at_base.specs.declared.notice.Kind.{Kind}
use Rattle.at_base.specs.declared.notice.Kind.TheVariants as kinds
use Rattle.at_base.specs.declared.notice.Notice.{Notice}
use Rattle.at_base.specs.declared.notice.Notice.TheVariants as notices
use Rattle.at_base.specs.declared.message.Message.TheVariants as messages
use Rattle.at_base.specs.declared.record.Record.{Record}
use Rattle.at_base.specs.declared.record.Record.TheVariants as records
use Rattle.at_base.specs.declared.target.Seat.{Seat}
use Rattle.at_base.specs.declared.target.Target.{Target}
use Rattle.at_base.specs.declared.target.Target.TheVariants as targets
use Rattle.at_model.specs.Book.{Activity, Book, Leaf, Transaction}
use Rattle.at_model.specs.World.{Node, Posted, World, WorldEvent, nth, run_of, Hosts, HaveOwnAddresses}
use Rattle.model_laws.specs.Agreement.{IsAccepted, IsIn}
use Rattle.model_laws.specs.ReachedWorlds.{Reached}
use Rattle.agreement.specs.Deeds.{coordinator_at}
use Rattle.enlistments.specs.Leads.{Completes, CompletesIfKnown, Enlists, EnlistsIfKnown, IsOfKind, LeadsTo}

-- A RegisterResponse that goes to an item names the seat, or the completion seat, at which that item was accepted.
abbrev pub NamesSeatOf : Hosts → World → Epr → ℕ → Target → Type 0
NamesSeatOf hosts w c m (targets.Participant i kind) = Enlists hosts w c (record { node = m; id = i }) kind
NamesSeatOf hosts w c m (targets.Initiator i) = Completes hosts w c (record { node = m; id = i })
NamesSeatOf hosts w c m other = Unit {0}

abbrev pub AnswersName : Hosts → World → Posted → Type 0
AnswersName hosts w p =
    (to c : Epr) (m : ℕ) (T : Target) → p.content.to ≡ Some to → p.content.message ≡ messages.RegisterResponse c → LeadsTo hosts to m T → NamesSeatOf hosts w c m T

-- A coordinator that an item knows, or that a record names, is the seat at which that item was accepted.
abbrev pub TransactionKnows : Hosts → World → ℕ → Transaction → Type 0
TransactionKnows hosts w n t = (kind : Kind) → EnlistsIfKnown hosts w (coordinator_at kind t.superior) (record { node = n; id = t.id }) kind

abbrev pub LeafKnows : Hosts → World → ℕ → Leaf → Type 0
LeafKnows hosts w n l = EnlistsIfKnown hosts w l.coordinator (record { node = n; id = l.id }) l.kind

abbrev pub ActivityKnows : Hosts → World → ℕ → Activity → Type 0
ActivityKnows hosts w n a = CompletesIfKnown hosts w a.coordinator (record { node = n; id = a.id })

abbrev pub RecordKnows : Hosts → World → ℕ → Record → Type 0
RecordKnows hosts w n (records.LeafPrepared id coordinator key value) = Enlists hosts w coordinator (record { node = n; id = id }) kinds.Durable
RecordKnows hosts w n (records.Voted id coordinator seats) = Enlists hosts w coordinator (record { node = n; id = id }) kinds.Durable
RecordKnows hosts w n other = Unit {0}

pub record BookKnows (hosts : Hosts) (w : World) (n : ℕ) (b : Book) : Type 0 where
  pub transactions : AllByRecursion (TransactionKnows hosts w n) b.transactions
  pub leaves : AllByRecursion (LeafKnows hosts w n) b.leaves
  pub activities : AllByRecursion (ActivityKnows hosts w n) b.activities

-- what a coordinator asks of a participant
abbrev pub IsAsked : Notice → Type 0
IsAsked n = (n ≡ notices.Prepare) ⊎ ((n ≡ notices.Commit) ⊎ (n ≡ notices.Rollback))

-- A Prepare, Commit or Rollback that goes to a participant comes from the seat at which that participant was accepted.
abbrev pub AsksItsOwn : Hosts → World → Posted → Type 0
AsksItsOwn hosts w p =
    (n : Notice) (to c : Epr) (m : ℕ) (i : Numbers) (kind : Kind) → p.content.message ≡ messages.Notice n → IsAsked n → p.content.to ≡ Some to → LeadsTo hosts to m (targets.Participant i kind)
    → p.content.from ≡ Some c → Enlists hosts w c (record { node = m; id = i }) kind

-- A Commit or Rollback that goes to a completion seat comes from the initiator that was accepted there.
abbrev pub AsksAsInitiator : Hosts → World → Posted → Type 0
AsksAsInitiator hosts w p =
    (n : Notice) (to c : Epr) (m k : ℕ) (id : Numbers) (T : Target) → p.content.message ≡ messages.Notice n → (n ≡ notices.Commit) ⊎ (n ≡ notices.Rollback) → p.content.to ≡ Some to
    → LeadsTo hosts to m (targets.Completion id) → p.content.from ≡ Some c → LeadsTo hosts c k T
    → (i : Numbers) × (T ≡ targets.Initiator i) × IsAccepted w (record { node = m; id = id }) None (record { node = k; id = i })

-- A vote Prepared or ReadOnly that goes to a seat is that of the participant that was accepted there, and its From, where it
-- leads anywhere, is that participant's own endpoint.
pub record IsVoteOf (hosts : Hosts) (w : World) (p : Posted) (n : ℕ) (j : Numbers) (s : Seat) : Type 0 where
  pub item : Numbers
  pub own : p.content.own ≡ Some (targets.Participant item s.kind)
  pub accepted : IsAccepted w (record { node = n; id = j }) (Some s) (record { node = p.sender; id = item })
  pub from : (c : Epr) (m : ℕ) (T : Target) → p.content.from ≡ Some c → LeadsTo hosts c m T → (m ≡ p.sender) × (T ≡ targets.Participant item s.kind)

abbrev pub VotesAtItsSeat : Hosts → World → Posted → Type 0
VotesAtItsSeat hosts w p =
    (v : Notice) (to : Epr) (n : ℕ) (j : Numbers) (s : Seat) → p.content.message ≡ messages.Notice v → (v ≡ notices.Prepared) ⊎ (v ≡ notices.ReadOnly) → p.content.to ≡ Some to
    → LeadsTo hosts to n (targets.Coordinator j s) → IsVoteOf hosts w p n j s

-- What is known in a world, by the items and by their messages.
pub record IsKnowing (hosts : Hosts) (w : World) : Type 0 where
  pub answers : AllByRecursion (AnswersName hosts w) w.posted
  pub books : (n : ℕ) (x : Node) (b : Book) → nth n w.nodes ≡ Some x → x.book ≡ Some b → BookKnows hosts w n b
  pub journals : (n : ℕ) (x : Node) → nth n w.nodes ≡ Some x → AllByRecursion (RecordKnows hosts w n) x.journal
  pub asks : AllByRecursion (AsksItsOwn hosts w) w.posted
  pub completes : AllByRecursion (AsksAsInitiator hosts w) w.posted
  pub votes : AllByRecursion (VotesAtItsSeat hosts w) w.posted
  -- a seat's participant is of the seat's kind
  pub seats : (n : ℕ) (x : Node) (b : Book) (t : Transaction) → nth n w.nodes ≡ Some x → x.book ≡ Some b → IsIn t b.transactions
      → AllByRecursion (λ s. IsOfKind hosts s.participant s.kind) t.seats

-- So it is in every world that is reached, and in every run.
pub record CoordinatorsAreKnown : Type 0 where
  pub reached : (hosts : Hosts) (w : World) → HaveOwnAddresses hosts → Reached hosts w → IsKnowing hosts w
  pub runs : (hosts : Hosts) (es : List WorldEvent) → HaveOwnAddresses hosts → IsKnowing hosts (run_of hosts es)
