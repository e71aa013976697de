-- Why each notification of a step is posted.
use Rattle.std.specs.Prelude.{ℕ, List, Option, Some, None, Bool, true, false, is_none, ◌≡◌, ◌⊎◌}
use Rattle.std.specs.List.{AllByRecursion}
use Rattle.at_base.specs.Numbers.{Numbers}
use Rattle.at_base.specs.declared.epr.Epr.{Epr}
use Rattle.at_base.specs.declared.notice.Kind.{Kind}
use Rattle.at_base.specs.declared.notice.Kind.TheVariants as kinds
use Rattle.at_base.specs.declared.notice.Notice.{Notice}
use Rattle.at_base.specs.declared.notice.Notice.TheVariants as notices
use Rattle.at_base.specs.declared.epr.Reply.TheVariants as replies
use Rattle.at_base.specs.declared.message.Message.{Message}
use Rattle.at_base.specs.declared.message.Message.TheVariants as messages
use Rattle.at_base.specs.declared.event.Arrived.{Arrived}
use Rattle.at_base.specs.declared.event.Event.{Event}
use Rattle.at_base.specs.declared.event.Event.TheVariants as events
use Rattle.at_base.specs.declared.outs.Out.{Out}
use Rattle.at_base.specs.declared.outs.Out.TheVariants as outs
use Rattle.at_base.specs.declared.outs.Post.{Post}
use Rattle.at_base.specs.declared.record.Record.{Record}
use Rattle.at_base.specs.declared.target.Seat.{Seat}
use Rattle.at_base.specs.declared.target.Target.{Target}
use Rattle.at_base.specs.declared.target.Target.TheVariants as targets
use Rattle.at_tables.specs.declared.cells.State.TheVariants as states
use Rattle.endpoints.specs.Addresses.{endpoint_of}
use Rattle.at_model.specs.Book.{Book, Completion, Enlistment, Superior, Transaction}
use Rattle.at_model.specs.Posts.{from_on, notice_post, reply_post, stranger_post}
use Rattle.at_model.specs.Register.{completion_endpoint, is_late, new_seat, protocol_named, seat_endpoint}
use Rattle.at_model.specs.Seats.{link_of, seat_target}
use Rattle.at_model.specs.Step.{Outcome, has_committed, moment_of, plan, step}
use Rattle.model_laws.specs.Agreement.{IsIn}
use Rattle.model_laws.specs.Shapes.{IsUnknownAt}
use Rattle.agreement.specs.ActivityDeeds.{ActivitySays}
use Rattle.agreement.specs.Deeds.{InitiatorAsked, IsAbort, ParticipantSaid, SuperiorSaid, WhyInitiator, WhySeat, WhySuperior, coordinator_at, initiator}
use Rattle.agreement.specs.StepDeeds.{standing}
use Rattle.agreement.specs.LeafDeeds.{LeafSays}
use Rattle.enlistments.specs.Moves.{ActivityDid, Answered, IsNotified, IsReady, LeafDid, Registered, TransactionDid}

-- a notification that this sender posts to this endpoint
pub record IsFrom (base : List ℕ) (own : Target) (to : Epr) (n : Notice) (p : Post) : Type 0 where
  pub owned : p.own ≡ Some own
  pub sent : p.to ≡ Some to
  pub from : p.from ≡ from_on n (endpoint_of base own)

-- one that is no item's own, an answer where nothing is waited for
pub record IsAnswerFrom (base : List ℕ) (own : Target) (to : Epr) (n : Notice) (p : Post) : Type 0 where
  pub unowned : p.own ≡ None
  pub sent : p.to ≡ Some to
  pub from : p.from ≡ from_on n (endpoint_of base own)

-- to the coordinator that the link knows, or to the From of the superior's notification
abbrev pub IsKnownOrAsked : Event → Kind → Transaction → Epr → Type 0
IsKnownOrAsked e kind t to = (coordinator_at kind t.superior ≡ Some to) ⊎ ((a : Arrived) × (e ≡ events.Arrived a) × (a.target ≡ targets.Participant t.id kind) × (a.from ≡ Some to) × IsNotified a.message)

-- what is answered where no such participant is known: abort is presumed, and who asks to commit has heard that it voted
-- Prepared (WS-AtomicTransaction 1.2, section 3.3.4)
abbrev pub AnswersAsNone : Notice → Notice → Type 0
AnswersAsNone notices.Prepare n = n ≡ notices.Aborted
AnswersAsNone notices.Commit n = n ≡ notices.Committed
AnswersAsNone notices.Rollback n = n ≡ notices.Aborted
AnswersAsNone other n = ⊥

-- Why a step posts this notification.
pub data Tells (b : Book) (e : Event) (now : ℕ) (entry : Option Record) (o : Outcome) (n : Notice) (p : Post) : Type 0 where
  -- a transaction: to one of its seats
  to_seat : (d : TransactionDid b e now entry o) (s : Enlistment) → IsIn s d.old.seats → WhySeat e d.old d.deed.how s n → IsFrom b.base (seat_target d.old.id s) s.participant n p
      → Tells b e now entry o n p
  -- to a seat that has left
  to_left_seat : (d : TransactionDid b e now entry o) (s : Enlistment) → IsIn s d.old.seats → s.kind ≡ kinds.Durable → s.state ≡ states.None
      → ParticipantSaid notices.Prepared e d.old s → n ≡ notices.Rollback → IsAnswerFrom b.base (seat_target d.old.id s) s.participant n p → Tells b e now entry o n p
  -- on a link that knows its coordinator
  to_superior : (d : TransactionDid b e now entry o) (kind : Kind) (to : Epr) → coordinator_at kind d.old.superior ≡ Some to → WhySuperior d.old d.deed.how d.deed.at kind n
      → IsFrom b.base (targets.Participant d.old.id kind) to n p → Tells b e now entry o n p
  -- on a link, as it aborts
  says_aborted : (d : TransactionDid b e now entry o) (kind : Kind) (to : Epr) → is_none d.old.superior ≡ false → IsAbort d.deed.how → n ≡ notices.Aborted
      → IsKnownOrAsked e kind d.old to → IsFrom b.base (targets.Participant d.old.id kind) to n p → Tells b e now entry o n p
  -- on a link that has left, to a superior that asks to commit
  from_left_link : (d : TransactionDid b e now entry o) (kind : Kind) (s : Superior) (to : Epr) → d.old.superior ≡ Some s → (link_of kind s).state ≡ states.None
      → SuperiorSaid kind notices.Commit e d.old → n ≡ notices.Committed → IsKnownOrAsked e kind d.old to → IsAnswerFrom b.base (targets.Participant d.old.id kind) to n p
      → Tells b e now entry o n p
  -- or to roll back, or to prepare
  left_link_aborted : (d : TransactionDid b e now entry o) (kind : Kind) (to : Epr) → is_none d.old.superior ≡ false → n ≡ notices.Aborted → IsKnownOrAsked e kind d.old to
      → IsAnswerFrom b.base (targets.Participant d.old.id kind) to n p → Tells b e now entry o n p
  -- to the initiator
  to_initiator : (d : TransactionDid b e now entry o) (to : Epr) → initiator d.old.completion ≡ Some to → WhyInitiator d.deed.how n
      → IsFrom b.base (targets.Completion d.old.id) to n p → Tells b e now entry o n p
  -- to an initiator that asks again, at its message's From
  to_asking : (d : TransactionDid b e now entry o) (c : Completion) (to : Epr) → d.old.completion ≡ Some c → c.state ≡ states.Done → InitiatorAsked e d.old to
      → n ≡ notices.Committed → IsFrom b.base (targets.Completion d.old.id) to n p → Tells b e now entry o n p
  -- a leaf, and an activity
  leaf_says : (d : LeafDid b e now entry o) → LeafSays (moment_of b now) e d.old d.change p → Tells b e now entry o n p
  activity_says : (d : ActivityDid b e now entry o) → ActivitySays (moment_of b now) d.old d.change p → Tells b e now entry o n p
  -- a volatile participant that registers while the volatile ones are asked is asked at once
  to_late_seat : (d : Registered b e now entry o) (kind : Kind) → is_late d.old.phase kind ≡ true → n ≡ notices.Prepare
      → IsIn (new_seat d.old d.request.participant kind) d.gives.transaction.seats
      → p ≡ notice_post b.base (seat_target d.old.id (new_seat d.old d.request.participant kind)) d.request.participant notices.Prepare → Tells b e now entry o n p
  -- where no such seat is known
  as_no_seat : (d : Answered b e now entry o) (id : Numbers) (s : Seat) (to : Epr) → d.arrived.target ≡ targets.Coordinator id s → s.kind ≡ kinds.Durable
      → IsUnknownAt b (targets.Coordinator id s) → d.arrived.message ≡ messages.Notice notices.Prepared → d.arrived.from ≡ Some to → n ≡ notices.Rollback
      → p ≡ stranger_post b.base (targets.Coordinator id s) to notices.Rollback → Tells b e now entry o n p
  -- where no such participant is known
  as_no_participant : (d : Answered b e now entry o) (id : Numbers) (kind : Kind) (to : Epr) (asked : Notice) → d.arrived.target ≡ targets.Participant id kind
      → IsUnknownAt b (targets.Participant id kind) → d.arrived.message ≡ messages.Notice asked → AnswersAsNone asked n → d.arrived.from ≡ Some to
      → p ≡ stranger_post b.base (targets.Participant id kind) to n → Tells b e now entry o n p
  -- where the outcome of a root is kept
  as_committed : (d : Answered b e now entry o) (id : Numbers) (to : Epr) → d.arrived.target ≡ targets.Completion id → has_committed b id ≡ true
      → d.arrived.message ≡ messages.Notice notices.Commit → d.arrived.from ≡ Some to → n ≡ notices.Committed
      → p ≡ notice_post b.base (targets.Completion id) to notices.Committed → Tells b e now entry o n p

-- the answer to a Register, as it was asked for
pub record IsReply (a : Arrived) (c : Epr) (p : Post) : Type 0 where
  pub to : Epr
  pub asked : a.reply ≡ replies.At to
  pub is : p ≡ reply_post (Some to) a.id (messages.RegisterResponse c)

-- Why a step posts this RegisterResponse: it names the seat that the participant got or had, or the completion seat.
pub data Responds (b : Book) (e : Event) (now : ℕ) (entry : Option Record) (o : Outcome) (c : Epr) (p : Post) : Type 0 where
  names_seat : (d : Registered b e now entry o) (kind : Kind) (s : Enlistment) → protocol_named d.request.protocol ≡ Some (Some kind)
      → IsIn s d.gives.transaction.seats → s.kind ≡ kind → s.participant ≡ d.request.participant → c ≡ seat_endpoint b.base d.old.id s → IsReply d.arrived c p
      → Responds b e now entry o c p
  names_completion : (d : Registered b e now entry o) (x : Completion) → protocol_named d.request.protocol ≡ Some None → d.gives.transaction.completion ≡ Some x
      → x.initiator ≡ d.request.participant → c ≡ completion_endpoint b.base d.old.id → IsReply d.arrived c p → Responds b e now entry o c p

abbrev pub Says : Book → Event → ℕ → Option Record → Outcome → Post → Message → Type 0
Says b e now entry o p (messages.Notice n) = Tells b e now entry o n p
Says b e now entry o p (messages.RegisterResponse c) = Responds b e now entry o c p
Says b e now entry o p other = Unit {0}

abbrev pub OutIsSaid : Book → Event → ℕ → Option Record → Outcome → Out → Type 0
OutIsSaid b e now entry o (outs.Post p) = Says b e now entry o p p.message
OutIsSaid b e now entry o (outs.Answer status reply) = Unit {0}

-- So is each notification, and each RegisterResponse, that a step of such a book posts.
pub record StepsTell : Type 0 where
  pub says : (b : Book) (e : Event) (now : ℕ) (landed : Bool) → IsReady b
      → AllByRecursion (OutIsSaid b e now (standing landed (plan b e now).entry) (step b e now landed)) (step b e now landed).outs
  pub told : (b : Book) (e : Event) (now : ℕ) (landed : Bool) → IsReady b → (p : Post) (n : Notice) → IsIn (outs.Post p) (step b e now landed).outs → p.message ≡ messages.Notice n
      → Tells b e now (standing landed (plan b e now).entry) (step b e now landed) n p
  pub responds : (b : Book) (e : Event) (now : ℕ) (landed : Bool) → IsReady b → (p : Post) (c : Epr) → IsIn (outs.Post p) (step b e now landed).outs
      → p.message ≡ messages.RegisterResponse c → Responds b e now (standing landed (plan b e now).entry) (step b e now landed) c p
