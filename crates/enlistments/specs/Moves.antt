-- What one step of a book is: which of its items it moves or makes, and what it leaves, records, posts and brings about.
use Rattle.std.specs.Prelude.{ℕ, List, [], ◌++◌, Option, Some, None, Bool, length, map, ◌≡◌, ◌⊎◌}
use Rattle.std.specs.List.{AllByRecursion}
use Rattle.at_base.specs.Numbers.{Numbers}
use Rattle.at_base.specs.declared.epr.Epr.{Epr}
use Rattle.at_base.specs.declared.notice.Kind.{Kind}
use Rattle.at_base.specs.declared.notice.Notice.{Notice}
use Rattle.at_base.specs.declared.notice.Notice.TheVariants as notices
use Rattle.at_base.specs.declared.message.Create.{Create}
use Rattle.at_base.specs.declared.message.Message.{Message}
use Rattle.at_base.specs.declared.message.Message.TheVariants as messages
use Rattle.at_base.specs.declared.message.Register.{Register}
use Rattle.at_base.specs.declared.message.Work.{Work}
use Rattle.at_base.specs.declared.event.Arrived.{Arrived}
use Rattle.at_base.specs.declared.event.Event.{Event}
use Rattle.at_base.specs.declared.event.Event.TheVariants as events
use Rattle.at_base.specs.declared.outs.Out.{Out}
use Rattle.at_base.specs.declared.outs.Out.TheVariants as outs
use Rattle.at_base.specs.declared.outs.Post.{Post}
use Rattle.at_base.specs.declared.record.Record.{Record}
use Rattle.at_base.specs.declared.target.Target.{Target}
use Rattle.at_base.specs.declared.target.Target.TheVariants as targets
use Rattle.endpoints.specs.Addresses.{endpoint_of}
use Rattle.at_model.specs.Book.{Activity, Book, Leaf, Transaction, leaf_id, next_id, put_by, transaction_id}
use Rattle.at_model.specs.Create.{on_create}
use Rattle.at_model.specs.Leaves.{on_work}
use Rattle.at_model.specs.Moves.{Change}
use Rattle.at_model.specs.Posts.{from_on}
use Rattle.at_model.specs.Register.{Registration, on_register}
use Rattle.at_model.specs.Step.{Outcome, activity_at, at_time, leaf_at, make_activity, make_leaf, make_transaction, moment_of, plan, put_activities, registration_outcome, step, still, transaction_at}
use Rattle.at_model.specs.World.{Node, World, nth, Hosts}
use Rattle.model_laws.specs.PhaseAnswers.{IsInPhase}
use Rattle.model_laws.specs.Order.{IsInOrder}
use Rattle.model_laws.specs.ReachedWorlds.{Reached}
use Rattle.model_laws.specs.Shapes.{Answers, IsAnswer, MakesActivity}
use Rattle.agreement.specs.ActivityDeeds.{ActivitiesStand, ActivityDeed}
use Rattle.agreement.specs.Deeds.{Deed, coordinator_at}
use Rattle.agreement.specs.StepDeeds.{standing}
use Rattle.agreement.specs.FinishedTransactions.{AreFinished}
use Rattle.agreement.specs.LeafDeeds.{LeafDeed, LeavesStand}
use Rattle.enlistments.specs.Registrations.{Enrolls}

-- the items of a book
pub record HasItems (b : Book) (transactions : List Transaction) (leaves : List Leaf) (activities : List Activity) : Type 0 where
  pub transactions_are : b.transactions ≡ transactions
  pub leaves_are : b.leaves ≡ leaves
  pub activities_are : b.activities ≡ activities

-- a book whose items stand as in every run
pub record IsReady (b : Book) : Type 0 where
  pub order : IsInOrder b
  pub phases : IsInPhase b
  pub finished : AreFinished b
  pub leaves : LeavesStand b
  pub activities : ActivitiesStand b

-- whose a notification is: its own sender's, or where it names none that of the target at which the message came
abbrev pub signer : Target → Option Target → Target
signer T None = T
signer T (Some own) = own

-- a notification came
abbrev pub IsNotified : Message → Type 0
IsNotified m = (n : Notice) × (m ≡ messages.Notice n)

-- to the coordinator that the link knows, or to the From of the superior's notification that came on it
abbrev pub IsUpwards : Event → Transaction → Kind → Option Epr → Type 0
IsUpwards e t kind to =
    (to ≡ coordinator_at kind t.superior) ⊎ ((a : Arrived) × (e ≡ events.Arrived a) × (a.target ≡ targets.Participant t.id kind) × (to ≡ a.from) × IsNotified a.message)

-- what goes out from where nothing is waited for
abbrev pub Replies : Event → Transaction → Notice → Target → Option Epr → Type 0
Replies e t n (targets.Participant id kind) to = (id ≡ t.id) × IsUpwards e t kind to
Replies e t n (targets.Coordinator id s) to = n ≡ notices.Rollback
Replies e t n other to = ⊥

abbrev pub GoesOut : Event → Transaction → Notice → Target → Option Target → Option Epr → Type 0
GoesOut e t n T None to = Replies e t n T to
GoesOut e t n T (Some (targets.Participant id kind)) to = IsUpwards e t kind to
GoesOut e t n T (Some other) to = Unit {0}

-- A transaction's notification has its signer's endpoint as From, and goes where it should; and none of its messages
-- answers a Register.
pub record IsSigned (base : List ℕ) (e : Event) (t : Transaction) (T : Target) (n : Notice) (p : Post) : Type 0 where
  pub from : p.from ≡ from_on n (endpoint_of base (signer T p.own))
  pub goes : GoesOut e t n T p.own p.to

abbrev pub SignedAs : List ℕ → Event → Transaction → Target → Post → Message → Type 0
SignedAs base e t T p (messages.Notice n) = IsSigned base e t T n p
SignedAs base e t T p (messages.RegisterResponse c) = ⊥
SignedAs base e t T p other = Unit {0}

abbrev pub Signed : List ℕ → Event → Transaction → Target → Post → Type 0
Signed base e t T p = SignedAs base e t T p p.message

-- the message, if one came, came to this target
abbrev pub CameAt : Target → Event → Type 0
CameAt T e = (a : Arrived) → e ≡ events.Arrived a → a.target ≡ T

-- A transaction did a deed.
pub record TransactionDid (b : Book) (e : Event) (now : ℕ) (entry : Option Record) (o : Outcome) : Type 0 where
  pub old : Transaction
  pub change : Change Transaction
  pub answer : List Out
  pub found : transaction_at b old.id ≡ Some old
  pub deed : Deed e old entry change
  pub signed : (T : Target) → CameAt T e → AllByRecursion (Signed b.base e old T) change.posts
  pub answers : IsAnswer answer
  pub items : HasItems o.book (put_by transaction_id old.id change.item b.transactions) b.leaves b.activities
  pub outs_are : o.outs ≡ answer ++ map outs.Post change.posts
  pub effects_are : o.effects ≡ change.effects

-- A leaf did.
pub record LeafDid (b : Book) (e : Event) (now : ℕ) (entry : Option Record) (o : Outcome) : Type 0 where
  pub old : Leaf
  pub change : Change Leaf
  pub answer : List Out
  pub found : leaf_at b old.id ≡ Some old
  pub deed : LeafDeed (moment_of b now) e old entry change
  pub answers : IsAnswer answer
  pub items : HasItems o.book b.transactions (put_by leaf_id old.id change.item b.leaves) b.activities
  pub outs_are : o.outs ≡ answer ++ map outs.Post change.posts
  pub effects_are : o.effects ≡ change.effects

-- An activity did.
pub record ActivityDid (b : Book) (e : Event) (now : ℕ) (entry : Option Record) (o : Outcome) : Type 0 where
  pub old : Activity
  pub change : Change Activity
  pub answer : List Out
  pub found : activity_at b old.id ≡ Some old
  pub deed : ActivityDeed (moment_of b now) e old entry change
  pub answers : IsAnswer answer
  pub items : HasItems o.book b.transactions b.leaves (put_activities old.id change.item b.activities)
  pub outs_are : o.outs ≡ answer ++ map outs.Post change.posts
  pub effects_are : o.effects ≡ change.effects

-- A transaction was asked to take a registration (WS-Coordination 1.2, section 3.2).
pub record Registered (b : Book) (e : Event) (now : ℕ) (entry : Option Record) (o : Outcome) : Type 0 where
  pub old : Transaction
  pub arrived : Arrived
  pub request : Register
  pub found : transaction_at b old.id ≡ Some old
  pub came : e ≡ events.Arrived arrived
  pub target : arrived.target ≡ targets.Registration old.id
  pub says : arrived.message ≡ messages.Register request
  pub unrecorded : entry ≡ None
  pub gives : Registration
  pub given : gives ≡ on_register (moment_of b now) arrived request old
  pub enrolls : Enrolls (moment_of b now) arrived request old gives
  pub is : o ≡ registration_outcome b now gives

-- A transaction was made.
pub record TransactionMade (b : Book) (e : Event) (now : ℕ) (entry : Option Record) (o : Outcome) : Type 0 where
  pub new : Transaction
  pub id : Numbers
  pub arrived : Arrived
  pub request : Create
  pub next : next_id b ≡ Some id
  pub came : e ≡ events.Arrived arrived
  pub target : arrived.target ≡ targets.Activation
  pub says : arrived.message ≡ messages.Create request
  pub makes : (on_create (moment_of b now) (length b.transactions) arrived request (Some id)).transaction ≡ Some new
  pub unrecorded : entry ≡ None
  pub is : o ≡ still (make_transaction (at_time now b) new) (on_create (moment_of b now) (length b.transactions) arrived request (Some id)).outs

-- A leaf was made.
pub record LeafMade (b : Book) (e : Event) (now : ℕ) (entry : Option Record) (o : Outcome) : Type 0 where
  pub new : Leaf
  pub id : Numbers
  pub arrived : Arrived
  pub request : Work
  pub next : next_id b ≡ Some id
  pub came : e ≡ events.Arrived arrived
  pub target : arrived.target ≡ targets.Work
  pub says : arrived.message ≡ messages.Work request
  pub makes : (on_work (moment_of b now) (length b.leaves) arrived request (Some id)).leaf ≡ Some new
  pub unrecorded : entry ≡ None
  pub is : o ≡ still (make_leaf (at_time now b) new) (on_work (moment_of b now) (length b.leaves) arrived request (Some id)).outs

-- An activity was made.
pub record ActivityMade (b : Book) (e : Event) (now : ℕ) (entry : Option Record) (o : Outcome) : Type 0 where
  pub new : Activity
  pub id : Numbers
  pub posts : List Out
  pub next : next_id b ≡ Some id
  pub makes : MakesActivity b e now id new posts
  pub unrecorded : entry ≡ None
  pub is : o ≡ still (make_activity (at_time now b) new) posts

-- A message was answered that moves nothing.
pub record Answered (b : Book) (e : Event) (now : ℕ) (entry : Option Record) (o : Outcome) : Type 0 where
  pub arrived : Arrived
  pub answer : List Out
  pub came : e ≡ events.Arrived arrived
  pub answers : Answers b now arrived answer
  pub unrecorded : entry ≡ None
  pub is : o ≡ still (at_time now b) answer

-- Nothing came of it: nothing was to be done, a request was refused, or the step was undone since its record is absent.
pub record Rested (b : Book) (e : Event) (now : ℕ) (entry : Option Record) (o : Outcome) : Type 0 where
  pub answer : List Out
  pub answers : IsAnswer answer
  pub unrecorded : entry ≡ None
  pub book : (o.book ≡ b) ⊎ (o.book ≡ at_time now b)
  pub outs_are : o.outs ≡ answer
  pub effects_are : o.effects ≡ []

-- What a step is, with this record in the journal and this outcome.
pub data Moved (b : Book) (e : Event) (now : ℕ) (entry : Option Record) (o : Outcome) : Type 0 where
  transaction_did : TransactionDid b e now entry o → Moved b e now entry o
  leaf_did : LeafDid b e now entry o → Moved b e now entry o
  activity_did : ActivityDid b e now entry o → Moved b e now entry o
  registered : Registered b e now entry o → Moved b e now entry o
  transaction_made : TransactionMade b e now entry o → Moved b e now entry o
  leaf_made : LeafMade b e now entry o → Moved b e now entry o
  activity_made : ActivityMade b e now entry o → Moved b e now entry o
  answered : Answered b e now entry o → Moved b e now entry o
  rested : Rested b e now entry o → Moved b e now entry o

-- Each step of such a book is one of these; and such is each book of a world that is reached.
pub record StepsMove : Type 0 where
  pub moved : (b : Book) (e : Event) (now : ℕ) (landed : Bool) → IsReady b → Moved b e now (standing landed (plan b e now).entry) (step b e now landed)
  pub ready : (hosts : Hosts) (w : World) → Reached hosts w → (n : ℕ) (x : Node) (b : Book) → nth n w.nodes ≡ Some x → x.book ≡ Some b → IsReady b
