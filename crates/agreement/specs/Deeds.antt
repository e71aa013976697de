-- What one step may do to one transaction: where it stood, what is recorded, what happened, and what becomes of it.
use Rattle.std.specs.Prelude.{ℕ, List, [], ◌∷◌, Option, Some, None, true, false, ◌≡◌, ◌⊎◌, option_map, is_none}
use Rattle.std.specs.List.{list_any, AllByRecursion}
use Rattle.at_base.specs.Numbers.{Numbers}
use Rattle.at_base.specs.declared.epr.Epr.{Epr}
use Rattle.at_base.specs.declared.notice.Kind.{Kind}
use Rattle.at_base.specs.declared.notice.Kind.TheVariants as kinds
use Rattle.at_base.specs.declared.notice.Notice.{Notice}
use Rattle.at_base.specs.declared.notice.Notice.TheVariants as notices
use Rattle.at_base.specs.declared.target.Target.{Target}
use Rattle.at_base.specs.declared.target.Target.TheVariants as targets
use Rattle.at_base.specs.declared.message.Message.TheVariants as messages
use Rattle.at_base.specs.declared.event.Arrived.{Arrived}
use Rattle.at_base.specs.declared.event.Event.{Event}
use Rattle.at_base.specs.declared.event.Event.TheVariants as events
use Rattle.at_base.specs.declared.record.Record.{Record}
use Rattle.at_base.specs.declared.record.Record.TheVariants as records
use Rattle.at_base.specs.declared.outs.Post.{Post}
use Rattle.at_base.specs.declared.outs.Effect.{Effect}
use Rattle.at_base.specs.declared.outs.Ending.TheVariants as endings
use Rattle.at_tables.specs.declared.cells.State.{State}
use Rattle.at_tables.specs.declared.cells.State.TheVariants as states
use Rattle.at_model.specs.Book.{Book, Completion, Enlistment, Phase, Superior, Transaction}
use Rattle.at_model.specs.Moves.{Change, Decision, Goes, Records}
use Rattle.at_model.specs.Seats.{all_left, answered, ending, in_state, is_open, is_prepared_durable, link_of, moved, prepared, seat_target}
use Rattle.at_model.specs.Arrivals.{with_answer}
use Rattle.at_model.specs.Due.{may_expire}
use Rattle.at_model.specs.Step.{moment_of, transaction_at}
use Rattle.model_laws.specs.PhaseAnswers.{IsInPhase, IsUnanswered, accepted_as}
use Rattle.model_laws.specs.Agreement.{IsIn}
use Rattle.model_laws.specs.Shapes.{MovesTransaction}
use Rattle.agreement.specs.Branches.{IsNoNotice}
use Rattle.agreement.specs.FinishedTransactions.{AreFinished}

-- A transaction is undecided in Registering, Active, Volatile and Durable, as `may_expire` says. One step lets it
pub data How : Type 0 where
  -- stay undecided, or stay in its phase
  Idles : How
  -- abort while it is undecided
  Aborts : How
  -- vote Prepared, as a subordinate
  Votes : How
  -- commit as a root that waits for its durable participants
  Decides : How
  -- commit as a root with nobody to wait for
  DecidesAlone : How
  -- vote ReadOnly, as a subordinate
  Leaves : How
  -- commit since its superior said Commit
  Commits : How
  -- abort behind its vote, since its superior said Rollback
  RollsBack : How
  -- be over once every durable participant has committed
  Ends : How
  -- be over behind an abort
  Forgets : How

-- who a subordinate's link leads to, once it knows
abbrev pub coordinator_at : Kind → Option Superior → Option Epr
coordinator_at kind None = None
coordinator_at kind (Some s) = (link_of kind s).coordinator

abbrev pub superior_at : Option Superior → Option Epr
superior_at s = coordinator_at kinds.Durable s

-- where it stood
abbrev pub StoodFor : How → Transaction → Type 0
StoodFor Idles t = Unit {0}
StoodFor Aborts t = may_expire t.phase ≡ true
StoodFor Votes t = (may_expire t.phase ≡ true) × (is_none (superior_at t.superior) ≡ false)
StoodFor Decides t = (may_expire t.phase ≡ true) × (t.superior ≡ None)
StoodFor DecidesAlone t = (may_expire t.phase ≡ true) × (t.superior ≡ None)
StoodFor Leaves t = (may_expire t.phase ≡ true) × (is_none (superior_at t.superior) ≡ false)
StoodFor Commits t = (t.phase ≡ Phase.Voted) × (is_none t.superior ≡ false)
StoodFor RollsBack t = (t.phase ≡ Phase.Voted) × (is_none t.superior ≡ false)
StoodFor Ends t = t.phase ≡ Phase.Committing
StoodFor Forgets t = t.phase ≡ Phase.Aborting

-- the superior's notification on a link
pub record SuperiorSaid (kind : Kind) (n : Notice) (e : Event) (t : Transaction) : Type 0 where
  pub message : Arrived
  pub came : e ≡ events.Arrived message
  pub target : message.target ≡ targets.Participant t.id kind
  pub says : message.message ≡ messages.Notice n

-- behind its vote it is its superior that decides (WS-AtomicTransaction 1.2, section 3.3.3)
abbrev pub IsHeard : How → Event → Transaction → Type 0
IsHeard Commits e t = SuperiorSaid kinds.Durable notices.Commit e t
IsHeard RollsBack e t = SuperiorSaid kinds.Durable notices.Rollback e t
IsHeard other e t = Unit {0}

-- every participant has voted or has left
abbrev pub AllAnswered : List Enlistment → Type 0
AllAnswered at = (answered kinds.Volatile at ≡ true) × (answered kinds.Durable at ≡ true)

-- what its participants have answered, of the seats as they stand once the message is counted, before anybody is told
abbrev pub StandsOn : How → List Enlistment → Type 0
StandsOn Votes at = AllAnswered at × (list_any is_prepared_durable at ≡ true)
StandsOn Decides at = AllAnswered at × (list_any is_prepared_durable at ≡ true)
StandsOn DecidesAlone at = AllAnswered at × (list_any is_prepared_durable at ≡ false)
StandsOn Leaves at = AllAnswered at × (list_any is_prepared_durable at ≡ false)
StandsOn Commits at = AllAnswered at
StandsOn Ends at = all_left at ≡ true
StandsOn other at = Unit {0}

-- the notification of a seat's participant
pub record ParticipantSaid (n : Notice) (e : Event) (t : Transaction) (s : Enlistment) : Type 0 where
  pub message : Arrived
  pub came : e ≡ events.Arrived message
  pub target : message.target ≡ targets.Coordinator t.id (record { number = s.number; kind = s.kind })
  pub says : message.message ≡ messages.Notice n

-- a participant may leave before it has voted, and while it is told to roll back
abbrev pub MayLeave : State → Type 0
MayLeave states.Active = Unit {0}
MayLeave states.Preparing = Unit {0}
MayLeave states.Aborting = Unit {0}
MayLeave other = ⊥

-- how a participant's notification changes the state of its seat
abbrev pub IsCounted : Notice → State → State → Type 0
IsCounted notices.Prepared before after = (before ≡ states.Preparing) × (after ≡ states.Prepared)
IsCounted notices.ReadOnly before after = MayLeave before × (after ≡ states.None)
IsCounted notices.Aborted before after = MayLeave before × (after ≡ states.None)
IsCounted notices.Committed before after = (before ≡ states.Committing) × (after ≡ states.None)
IsCounted other before after = ⊥

-- Why a seat is in this state once the message is counted: it was, it is asked now, or its own participant said so.
pub data IsWhy (e : Event) (t : Transaction) (old : Enlistment) (state : State) : Type 0 where
  is_still : state ≡ old.state → IsWhy e t old state
  is_asked : may_expire t.phase ≡ true → old.state ≡ states.Active → state ≡ states.Preparing → IsWhy e t old state
  has_said : (n : Notice) → ParticipantSaid n e t old → IsCounted n old.state state → IsWhy e t old state

-- it is the seat of the same participant, with a reason for its state
pub record Counted (e : Event) (t : Transaction) (old new : Enlistment) : Type 0 where
  pub seat : accepted_as new ≡ accepted_as old
  pub why : IsWhy e t old new.state

-- seat by seat
abbrev pub AreCounted : Event → Transaction → List Enlistment → List Enlistment → Type 0
AreCounted e t [] [] = Unit {0}
AreCounted e t (o ∷ os) (n ∷ ns) = Counted e t o n × AreCounted e t os ns
AreCounted e t olds news = ⊥

-- what is recorded: a vote and a decision name the durable participants that are Prepared
abbrev pub recorded : How → Transaction → List Enlistment → Option Record
recorded Votes t at = option_map (λ superior. records.Voted t.id superior (prepared at)) (superior_at t.superior)
recorded Decides t at = Some (records.Decided t.id (prepared at))
recorded DecidesAlone t at = Some (records.Decided t.id (prepared at))
recorded Commits t at = Some (records.SubCommitted t.id)
recorded RollsBack t at = Some (records.Ended t.id)
recorded Ends t at = Some (records.Ended t.id)
recorded other t at = None

-- what happened
abbrev pub happens : How → Transaction → List Effect
happens Aborts t = ending t endings.Aborted ∷ []
happens RollsBack t = ending t endings.Aborted ∷ []
happens Decides t = ending t endings.Committed ∷ []
happens DecidesAlone t = ending t endings.Committed ∷ []
happens Commits t = ending t endings.Committed ∷ []
happens other t = []

-- who is told: an abort rolls back every open seat, a commit reaches every Prepared one
abbrev pub rolled_back : List Enlistment → List Enlistment
rolled_back at = moved is_open states.Aborting at

abbrev pub told_to_commit : List Enlistment → List Enlistment
told_to_commit at = moved (in_state states.Prepared) states.Committing at

-- it goes on undecided, or stays in its phase
abbrev pub KeepsOn : Phase → Phase → Type 0
KeepsOn before after = ((may_expire before ≡ true) × (may_expire after ≡ true)) ⊎ (after ≡ before)

abbrev pub IsLeftIn : Phase → List Enlistment → Option Transaction → Type 0
IsLeftIn phase seats None = ⊥
IsLeftIn phase seats (Some t) = (t.phase ≡ phase) × (t.seats ≡ seats)

abbrev pub IsLeftOn : Phase → List Enlistment → Option Transaction → Type 0
IsLeftOn before seats None = ⊥
IsLeftOn before seats (Some t) = KeepsOn before t.phase × (t.seats ≡ seats)

-- it waits for who rolls back, and is over where nobody does
abbrev pub IsRolledBack : List Enlistment → Option Transaction → Type 0
IsRolledBack seats None = list_any (in_state states.Aborting) seats ≡ false
IsRolledBack seats (Some t) = (t.phase ≡ Phase.Aborting) × (t.seats ≡ seats) × (list_any (in_state states.Aborting) seats ≡ true)

-- what becomes of it, none where it is forgotten
abbrev pub Becomes : How → Transaction → List Enlistment → Option Transaction → Type 0
Becomes Idles t at new = IsLeftOn t.phase at new
Becomes Aborts t at new = IsRolledBack (rolled_back at) new
Becomes Votes t at new = IsLeftIn Phase.Voted at new
Becomes Decides t at new = IsLeftIn Phase.Committing (told_to_commit at) new
Becomes DecidesAlone t at new = new ≡ None
Becomes Leaves t at new = new ≡ None
Becomes Commits t at new = IsLeftIn Phase.Committing (told_to_commit at) new
Becomes RollsBack t at new = IsRolledBack (rolled_back at) new
Becomes Ends t at new = new ≡ None
Becomes Forgets t at new = new ≡ None

abbrev pub initiator : Option Completion → Option Epr
initiator completion = option_map (λ c. c.initiator) completion

-- what no step changes
pub record IsSame (old new : Transaction) : Type 0 where
  pub id : new.id ≡ old.id
  pub identifier : new.identifier ≡ old.identifier
  pub deadline : new.deadline ≡ old.deadline
  pub root : is_none new.superior ≡ is_none old.superior
  pub initiator : initiator new.completion ≡ initiator old.completion

abbrev pub IsSameIfLeft : Transaction → Option Transaction → Type 0
IsSameIfLeft old None = Unit {0}
IsSameIfLeft old (Some new) = IsSame old new

-- a link knows its coordinator from the answer to its Register (WS-Coordination 1.2, section 3.2)
pub record IsJoined (kind : Kind) (e : Event) (old new : Transaction) : Type 0 where
  pub coordinator : Epr
  pub message : Arrived
  pub came : e ≡ events.Arrived message
  pub target : message.target ≡ targets.Participant old.id kind
  pub says : message.message ≡ messages.RegisterResponse coordinator
  pub known : coordinator_at kind new.superior ≡ Some coordinator
  pub waited : (s : Superior) → old.superior ≡ Some s → (link_of kind s).state ≡ states.Registering

-- and keeps it
abbrev pub KeepsLink : Event → Transaction → Transaction → Kind → Type 0
KeepsLink e old new kind = (coordinator_at kind new.superior ≡ coordinator_at kind old.superior) ⊎ IsJoined kind e old new

abbrev pub KeepsLinksIfLeft : Event → Transaction → Option Transaction → Type 0
KeepsLinksIfLeft e old None = Unit {0}
KeepsLinksIfLeft e old (Some new) = (kind : Kind) → KeepsLink e old new kind

-- the deeds that abort, and those that commit
abbrev pub IsAbort : How → Type 0
IsAbort Aborts = Unit {0}
IsAbort RollsBack = Unit {0}
IsAbort other = ⊥

abbrev pub IsCommit : How → Type 0
IsCommit Decides = Unit {0}
IsCommit DecidesAlone = Unit {0}
IsCommit Commits = Unit {0}
IsCommit other = ⊥

-- a notification with this sender of its own, to this endpoint
pub record IsNotice (own : Option Target) (to : Epr) (n : Notice) (p : Post) : Type 0 where
  pub owned : p.own ≡ own
  pub sent : p.to ≡ Some to
  pub says : p.message ≡ messages.Notice n

-- Why a participant is notified: it has not answered, this step commits and it has voted Prepared, this step aborts, or it is
-- told the outcome again.
abbrev pub WhySeat : Event → Transaction → How → Enlistment → Notice → Type 0
WhySeat e t how s notices.Prepare = IsUnanswered s.state
WhySeat e t how s notices.Commit = (s.state ≡ states.Committing) ⊎ (IsCommit how × IsWhy e t s states.Prepared)
WhySeat e t how s notices.Rollback = (s.state ≡ states.Aborting) ⊎ IsAbort how
WhySeat e t how s other = ⊥

-- why a superior is notified on this link
abbrev pub WhySuperior : Transaction → How → List Enlistment → Kind → Notice → Type 0
WhySuperior t how at kinds.Durable notices.Prepared = (how ≡ Votes) ⊎ (t.phase ≡ Phase.Voted)
WhySuperior t how at kinds.Durable notices.ReadOnly = how ≡ Leaves
WhySuperior t how at kinds.Durable notices.Committed = how ≡ Ends
WhySuperior t how at kinds.Volatile notices.ReadOnly = (may_expire t.phase ≡ true) × (answered kinds.Volatile at ≡ true)
WhySuperior t how at kind other = ⊥

-- what a link in None answers
abbrev pub WhyLeft : Event → Transaction → Kind → Notice → Type 0
WhyLeft e t kind notices.Committed = SuperiorSaid kind notices.Commit e t
WhyLeft e t kind notices.Aborted = Unit {0}
WhyLeft e t kind other = ⊥

-- how the initiator hears of the outcome
abbrev pub WhyInitiator : How → Notice → Type 0
WhyInitiator Decides notices.Committed = Unit {0}
WhyInitiator DecidesAlone notices.Committed = Unit {0}
WhyInitiator how notices.Aborted = IsAbort how
WhyInitiator how other = ⊥

-- the initiator's Commit, with this From
pub record InitiatorAsked (e : Event) (t : Transaction) (to : Epr) : Type 0 where
  pub message : Arrived
  pub came : e ≡ events.Arrived message
  pub target : message.target ≡ targets.Completion t.id
  pub says : message.message ≡ messages.Notice notices.Commit
  pub from : message.from ≡ Some to

-- Why a message is posted: it is no notification, or it is one of these.
pub data IsPosted (e : Event) (t : Transaction) (how : How) (at : List Enlistment) (p : Post) : Type 0 where
  is_no_notice : IsNoNotice p.message → IsPosted e t how at p
  to_seat : (s : Enlistment) (n : Notice) → IsIn s t.seats → WhySeat e t how s n → IsNotice (Some (seat_target t.id s)) s.participant n p → IsPosted e t how at p
  -- abort is presumed (WS-AtomicTransaction 1.2, section 3.3.4)
  to_left_seat : (s : Enlistment) → IsIn s t.seats → s.kind ≡ kinds.Durable → s.state ≡ states.None → ParticipantSaid notices.Prepared e t s → IsNotice None s.participant notices.Rollback p
      → IsPosted e t how at p
  to_superior : (kind : Kind) (n : Notice) (to : Epr) → coordinator_at kind t.superior ≡ Some to → WhySuperior t how at kind n → IsNotice (Some (targets.Participant t.id kind)) to n p
      → IsPosted e t how at p
  -- a Rollback is answered even where the link doesn't know its coordinator
  says_aborted : (kind : Kind) (to : Epr) → is_none t.superior ≡ false → IsAbort how → IsNotice (Some (targets.Participant t.id kind)) to notices.Aborted p → IsPosted e t how at p
  from_left_link : (kind : Kind) (s : Superior) (n : Notice) (to : Epr) → t.superior ≡ Some s → (link_of kind s).state ≡ states.None → WhyLeft e t kind n → IsNotice None to n p
      → IsPosted e t how at p
  to_initiator : (n : Notice) (to : Epr) → initiator t.completion ≡ Some to → WhyInitiator how n → IsNotice (Some (targets.Completion t.id)) to n p → IsPosted e t how at p
  -- an initiator that asks again hears of the commit at its message's From
  to_asking : (c : Completion) (to : Epr) → t.completion ≡ Some c → c.state ≡ states.Done → InitiatorAsked e t to → IsNotice (Some (targets.Completion t.id)) to notices.Committed p → IsPosted e t how at p

-- One step of a transaction: this is recorded, and this is left of it, posted and happened.
pub record Deed (e : Event) (t : Transaction) (entry : Option Record) (c : Change Transaction) : Type 0 where
  pub how : How
  -- the seats once the message is counted, before anybody is told
  pub at : List Enlistment
  pub counted : AreCounted e t t.seats at
  pub stood : StoodFor how t
  pub heard : IsHeard how e t
  pub behind : StandsOn how at
  pub records : entry ≡ recorded how t at
  pub happened : c.effects ≡ happens how t
  pub becomes : Becomes how t at c.item
  pub same : IsSameIfLeft t c.item
  pub links : KeepsLinksIfLeft e t c.item
  pub posts : AllByRecursion (IsPosted e t how at) c.posts

-- Why a seat is in this state behind the step: who is told to commit has voted Prepared, and who is told to roll back is
-- told so by an abort.
abbrev pub WhyAfter : Event → Transaction → How → Enlistment → State → Type 0
WhyAfter e t how old states.Active = old.state ≡ states.Active
WhyAfter e t how old states.Preparing = IsUnanswered old.state
WhyAfter e t how old states.Prepared = IsWhy e t old states.Prepared
WhyAfter e t how old states.Committing = (old.state ≡ states.Committing) ⊎ (IsCommit how × IsWhy e t old states.Prepared)
WhyAfter e t how old states.Aborting = (old.state ≡ states.Aborting) ⊎ IsAbort how
WhyAfter e t how old states.None = IsWhy e t old states.None
WhyAfter e t how old other = old.state ≡ other

pub record IsSeatAfter (e : Event) (t : Transaction) (how : How) (old new : Enlistment) : Type 0 where
  pub seat : accepted_as new ≡ accepted_as old
  pub why : WhyAfter e t how old new.state

abbrev pub AreSeatsAfter : Event → Transaction → How → List Enlistment → List Enlistment → Type 0
AreSeatsAfter e t how [] [] = Unit {0}
AreSeatsAfter e t how (o ∷ os) (n ∷ ns) = IsSeatAfter e t how o n × AreSeatsAfter e t how os ns
AreSeatsAfter e t how olds news = ⊥

abbrev pub AreSeatsIfLeft : Event → Transaction → How → Option Transaction → Type 0
AreSeatsIfLeft e t how None = Unit {0}
AreSeatsIfLeft e t how (Some new) = AreSeatsAfter e t how t.seats new.seats

-- Behind each deed every seat is its participant's still, and its state has its reason.
pub record DeedsMoveSeats : Type 0 where
  pub seats : (e : Event) (t : Transaction) (entry : Option Record) (c : Change Transaction) (d : Deed e t entry c) → AreSeatsIfLeft e t d.how c.item

-- both branches of a decision: with its record, and where that is certainly absent
abbrev pub Deeds : {A : Type 0} → (Option Record → Change A → Type 0) → Decision A → Type 0
Deeds P (Goes c) = P None c
Deeds P (Records r c None) = P (Some r) c
Deeds P (Records r c (Some d)) = P (Some r) c × P None d

-- Whatever moves a transaction of a book does one of these deeds, where the record landed and where it didn't.
pub record TransactionsDo : Type 0 where
  pub deeds : (b : Book) (e : Event) (now : ℕ) (id : Numbers) (t : Transaction) (d : Decision Transaction) → IsInPhase b → AreFinished b → transaction_at b id ≡ Some t
      → MovesTransaction b e now t d → Deeds (Deed e t) (with_answer (moment_of b now) t d)
