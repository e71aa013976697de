-- What is owed while a world settles: for whoever waits for an answer a message is on its way, or somebody else is busy with it.
use Rattle.std.specs.Prelude.{ℕ, List, Some, true, ◌^◌, ◌≡◌, ◌≤◌, ◌<◌, ◌⊎◌}
use Rattle.at_base.specs.Numbers.{Numbers}
use Rattle.at_base.specs.declared.epr.Epr.{Epr}
use Rattle.at_base.specs.declared.epr.Reply.TheVariants as replies
use Rattle.at_base.specs.declared.notice.Kind.{Kind}
use Rattle.at_base.specs.declared.notice.Kind.TheVariants as kinds
use Rattle.at_base.specs.declared.notice.Notice.{Notice}
use Rattle.at_base.specs.declared.notice.Notice.TheVariants as notices
use Rattle.at_base.specs.declared.message.Message.TheVariants as messages
use Rattle.at_base.specs.declared.message.Register.{Register}
use Rattle.at_base.specs.declared.event.Arrived.{Arrived}
use Rattle.at_base.specs.declared.target.Target.{Target}
use Rattle.at_base.specs.declared.target.Target.TheVariants as targets
use Rattle.at_tables.specs.declared.cells.State.TheVariants as states
use Rattle.endpoints.specs.Addresses.{register_id}
use Rattle.at_model.specs.Arrivals.{relates_to}
use Rattle.at_model.specs.Book.{Book, Enlistment, Leaf, Request, Superior, Transaction, WorkRequest}
use Rattle.at_model.specs.Seats.{link_of}
use Rattle.at_model.specs.Step.{leaf_at, transaction_at}
use Rattle.at_model.specs.World.{Node, Posted, Who, World, decoded, nth, Hosts}
use Rattle.model_laws.specs.Agreement.{IsIn}
use Rattle.enlistments.specs.Leads.{LeadsTo}
use Rattle.owed.specs.Leaves.{AnswersRegister}
use Rattle.owed.specs.Seats.{AnswersSeat}
use Rattle.owed.specs.Links.{CommitsIn, LinkIsBusy}
use Rattle.paired.specs.Partners.{IsPlace, participant_of, seat_of}

-- the node is up with this book
pub record Holds (w : World) (n : ℕ) (b : Book) : Type 0 where
  pub node : Node
  pub found : nth n w.nodes ≡ Some node
  pub up : node.book ≡ Some b

-- One of these messages goes to this node, and arrives so.
pub record Comes (hosts : Hosts) (queue : List Posted) (n : ℕ) (P : Arrived → Type 0) : Type 0 where
  pub posted : Posted
  pub waits : IsIn posted queue
  pub receiver : posted.receiver ≡ Some n
  pub arrived : Arrived
  pub decodes : decoded (hosts.base_of n) posted.content ≡ Some arrived
  pub says : P arrived

-- a notification to this target, and from this endpoint
abbrev pub IsNotice : Target → Notice → Arrived → Type 0
IsNotice T n a = (a.target ≡ T) × (a.message ≡ messages.Notice n)

abbrev pub IsNoticeFrom : Target → Notice → Epr → Arrived → Type 0
IsNoticeFrom T n e a = IsNotice T n a × (a.from ≡ Some e)

-- a seat that a path can name
pub record IsSeatPlace (hosts : Hosts) (t : Who) (number : ℕ) : Type 0 where
  pub place : IsPlace hosts t
  pub least : 1 ≤ number
  pub most : number < 2 ^ 16

abbrev pub seat_target_of : Who → ℕ → Kind → Target
seat_target_of t number kind = targets.Coordinator t.id (record { number = number; kind = kind })

-- A participant's link is asked, or commits.
pub record IsBusyAt (w : World) (x : Who) (kind : Kind) : Type 0 where
  pub book : Book
  pub holds : Holds w x.node book
  pub transaction : Transaction
  pub found : transaction_at book x.id ≡ Some transaction
  pub busy : LinkIsBusy kind transaction.superior

pub record CommitsAt (w : World) (x : Who) : Type 0 where
  pub book : Book
  pub holds : Holds w x.node book
  pub transaction : Transaction
  pub found : transaction_at book x.id ≡ Some transaction
  pub commits : CommitsIn transaction.superior

-- a durable seat is Prepared
pub record IsPreparedAt (w : World) (t : Who) (number : ℕ) : Type 0 where
  pub book : Book
  pub holds : Holds w t.node book
  pub transaction : Transaction
  pub found : transaction_at book t.id ≡ Some transaction
  pub seat : Enlistment
  pub among : IsIn seat transaction.seats
  pub number_is : seat.number ≡ number
  pub kind_is : seat.kind ≡ kinds.Durable
  pub state_is : seat.state ≡ states.Prepared

-- A seat that waits for its participant's vote: the participant is asked, or answers, or is busy with asking its own.
abbrev pub AnswersOnWay : Hosts → List Posted → Who → ℕ → Kind → Type 0
AnswersOnWay hosts queue t number kind = (n : Notice) × AnswersSeat n × Comes hosts queue t.node (IsNotice (seat_target_of t number kind) n)

abbrev pub OwesVote : Hosts → World → List Posted → Who → ℕ → Kind → Who → Type 0
OwesVote hosts w queue t number kind x =
    Comes hosts queue x.node (IsNoticeFrom (targets.Participant x.id kind) notices.Prepare (seat_of hosts t number kind)) ⊎ (AnswersOnWay hosts queue t number kind ⊎ IsBusyAt w x kind)

-- A durable seat that waits until its participant has committed: it is told to, or says so, or is busy with telling its own.
abbrev pub OwesCommitted : Hosts → World → List Posted → Who → ℕ → Who → Type 0
OwesCommitted hosts w queue t number x =
    Comes hosts queue x.node (IsNoticeFrom (targets.Participant x.id kinds.Durable) notices.Commit (seat_of hosts t number kinds.Durable))
    ⊎ (Comes hosts queue t.node (IsNotice (seat_target_of t number kinds.Durable) notices.Committed) ⊎ CommitsAt w x)

-- A durable participant that waits for the outcome: its vote is on its way, or the outcome is, or the seat has its vote.
abbrev pub IsToldOnWay : Hosts → List Posted → Who → Type 0
IsToldOnWay hosts queue x =
    Comes hosts queue x.node (IsNotice (targets.Participant x.id kinds.Durable) notices.Commit) ⊎ Comes hosts queue x.node (IsNotice (targets.Participant x.id kinds.Durable) notices.Rollback)

abbrev pub OwesOutcome : Hosts → World → List Posted → Who → Who → ℕ → Type 0
OwesOutcome hosts w queue x t number =
    Comes hosts queue t.node (IsNoticeFrom (seat_target_of t number kinds.Durable) notices.Prepared (participant_of hosts x kinds.Durable)) ⊎ (IsToldOnWay hosts queue x ⊎ IsPreparedAt w t number)

-- A participant that registers at a transaction of a node: its Register is on its way, or the answer.
pub record IsRegisterOf (hosts : Hosts) (x : Who) (kind : Kind) (id : Numbers) (a : Arrived) : Type 0 where
  pub target : a.target ≡ targets.Registration id
  pub register : Register
  pub says : a.message ≡ messages.Register register
  pub reply : a.reply ≡ replies.At (participant_of hosts x kind)
  pub fault : a.fault ≡ replies.At (participant_of hosts x kind)
  pub named : a.id ≡ Some (register_id (hosts.base_of x.node) (targets.Participant x.id kind))

pub record IsRegisteredBy (hosts : Hosts) (x : Who) (kind : Kind) (a : Arrived) : Type 0 where
  pub target : a.target ≡ targets.Participant x.id kind
  pub relates : relates_to a.relates (register_id (hosts.base_of x.node) (targets.Participant x.id kind)) ≡ true
  pub answers : AnswersRegister a.message

abbrev pub OwesRegistered : Hosts → List Posted → Who → Kind → ℕ → Numbers → Type 0
OwesRegistered hosts queue x kind n id = Comes hosts queue n (IsRegisterOf hosts x kind id) ⊎ Comes hosts queue x.node (IsRegisteredBy hosts x kind)

-- All that is owed to the seats and participants of these nodes.
pub record VotesAreOwed (hosts : Hosts) (Asked : ℕ → Type 0) (w : World) (queue : List Posted) : Type 0 where
  pub seats : (n : ℕ) (b : Book) (t : Transaction) (s : Enlistment) (x : Who) → Asked n → Holds w n b → transaction_at b t.id ≡ Some t → IsIn s t.seats → s.state ≡ states.Preparing → IsPlace hosts x
      → s.participant ≡ participant_of hosts x s.kind → OwesVote hosts w queue (record { node = n; id = t.id }) s.number s.kind x

pub record CommitsAreOwed (hosts : Hosts) (Asked : ℕ → Type 0) (w : World) (queue : List Posted) : Type 0 where
  pub seats : (n : ℕ) (b : Book) (t : Transaction) (s : Enlistment) (x : Who) → Asked n → Holds w n b → transaction_at b t.id ≡ Some t → IsIn s t.seats → s.kind ≡ kinds.Durable
      → s.state ≡ states.Committing → IsPlace hosts x → s.participant ≡ participant_of hosts x s.kind → OwesCommitted hosts w queue (record { node = n; id = t.id }) s.number x

pub record OutcomesAreOwed (hosts : Hosts) (Asked : ℕ → Type 0) (w : World) (queue : List Posted) : Type 0 where
  pub links : (n : ℕ) (b : Book) (t : Transaction) (s : Superior) (z : Who) (number : ℕ) → Asked n → Holds w n b → transaction_at b t.id ≡ Some t → t.superior ≡ Some s
      → s.durable.state ≡ states.PreparedSuccess → IsSeatPlace hosts z number → s.durable.coordinator ≡ Some (seat_of hosts z number kinds.Durable) → OwesOutcome hosts w queue (record { node = n; id = t.id }) z number
  pub leaves : (n : ℕ) (b : Book) (l : Leaf) (z : Who) (number : ℕ) → Asked n → Holds w n b → leaf_at b l.id ≡ Some l → l.kind ≡ kinds.Durable → l.state ≡ states.PreparedSuccess → IsSeatPlace hosts z number
      → l.coordinator ≡ Some (seat_of hosts z number kinds.Durable) → OwesOutcome hosts w queue (record { node = n; id = l.id }) z number

pub record RegistrationsAreOwed (hosts : Hosts) (Asked : ℕ → Type 0) (w : World) (queue : List Posted) : Type 0 where
  pub links : (n : ℕ) (b : Book) (t : Transaction) (s : Superior) (kind : Kind) (r : Request) (m : ℕ) (id : Numbers) → Asked n → Holds w n b → transaction_at b t.id ≡ Some t → t.superior ≡ Some s
      → (link_of kind s).state ≡ states.Registering → s.request ≡ Some r → LeadsTo hosts r.registration m (targets.Registration id)
      → OwesRegistered hosts queue (record { node = n; id = t.id }) kind m id
  pub leaves : (n : ℕ) (b : Book) (l : Leaf) (r : WorkRequest) (m : ℕ) (id : Numbers) → Asked n → Holds w n b → leaf_at b l.id ≡ Some l → l.state ≡ states.Registering → l.request ≡ Some r
      → LeadsTo hosts r.registration m (targets.Registration id) → OwesRegistered hosts queue (record { node = n; id = l.id }) l.kind m id

-- nobody that has a seat registers
pub record HasRegistered (w : World) (x : Who) (kind : Kind) : Type 0 where
  pub link : (b : Book) (t : Transaction) (s : Superior) → Holds w x.node b → transaction_at b x.id ≡ Some t → t.superior ≡ Some s → (link_of kind s).state ≡ states.Registering → ⊥
  pub leaf : (b : Book) (l : Leaf) → Holds w x.node b → leaf_at b x.id ≡ Some l → l.state ≡ states.Registering → ⊥
