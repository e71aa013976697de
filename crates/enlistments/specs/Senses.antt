-- The notifications of a step by their sense: votes, what is asked, and outcomes.
use Rattle.std.specs.Prelude.{ℕ, Option, Some, Bool, true, ◌≡◌}
use Rattle.at_base.specs.Numbers.{Numbers}
use Rattle.at_base.specs.declared.epr.Epr.{Epr}
use Rattle.at_base.specs.declared.notice.Kind.{Kind}
use Rattle.at_base.specs.declared.notice.Kind.TheVariants as kinds
use Rattle.at_base.specs.declared.notice.Notice.{Notice}
use Rattle.at_base.specs.declared.notice.Notice.TheVariants as notices
use Rattle.at_base.specs.declared.message.Message.TheVariants as messages
use Rattle.at_base.specs.declared.event.Event.{Event}
use Rattle.at_base.specs.declared.outs.Out.TheVariants as outs
use Rattle.at_base.specs.declared.outs.Post.{Post}
use Rattle.at_base.specs.declared.record.Record.{Record}
use Rattle.at_base.specs.declared.target.Seat.{Seat}
use Rattle.at_base.specs.declared.target.Target.TheVariants as targets
use Rattle.at_tables.specs.declared.cells.State.TheVariants as states
use Rattle.at_model.specs.Activities.{activity_target}
use Rattle.at_model.specs.Book.{Book, Enlistment}
use Rattle.at_model.specs.Posts.{notice_post, stranger_post}
use Rattle.at_model.specs.Register.{is_late, new_seat}
use Rattle.at_model.specs.Seats.{seat_target}
use Rattle.at_model.specs.Step.{Outcome, moment_of, plan, step}
use Rattle.model_laws.specs.Agreement.{IsIn}
use Rattle.model_laws.specs.Shapes.{IsUnknownAt}
use Rattle.agreement.specs.ActivityDeeds.{Completes}
use Rattle.agreement.specs.Deeds.{ParticipantSaid, WhySeat, WhySuperior, coordinator_at}
use Rattle.agreement.specs.StepDeeds.{standing}
use Rattle.agreement.specs.LeafDeeds.{LeafSays, leaf_notice_to}
use Rattle.enlistments.specs.Moves.{ActivityDid, Answered, IsReady, LeafDid, Registered, TransactionDid}
use Rattle.enlistments.specs.NoticeOrigins.{IsAnswerFrom, IsFrom}

pub data Sense : Type 0 where
  Vote : Sense
  Ask : Sense
  End : Sense

abbrev pub sense : Notice → Sense
sense notices.Prepare = Ask
sense notices.Commit = Ask
sense notices.Rollback = Ask
sense notices.Prepared = Vote
sense notices.ReadOnly = Vote
sense notices.Aborted = End
sense notices.Committed = End

-- Why a Prepare, a Commit or a Rollback is posted: to a seat of a transaction, or where no such seat is known, by a
-- coordinator; or to a completion seat, by an initiator.
pub data Asks (b : Book) (e : Event) (now : ℕ) (entry : Option Record) (o : Outcome) (n : Notice) (p : Post) : Type 0 where
  asks_seat : (d : TransactionDid b e now entry o) (s : Enlistment) → IsIn s d.old.seats → WhySeat e d.old d.deed.how s n → IsFrom b.base (seat_target d.old.id s) s.participant n p
      → Asks b e now entry o n p
  asks_left_seat : (d : TransactionDid b e now entry o) (s : Enlistment) → IsIn s d.old.seats → s.kind ≡ kinds.Durable → s.state ≡ states.None
      → ParticipantSaid notices.Prepared e d.old s → n ≡ notices.Rollback → IsAnswerFrom b.base (seat_target d.old.id s) s.participant n p → Asks b e now entry o n p
  asks_late_seat : (d : Registered b e now entry o) (kind : Kind) → is_late d.old.phase kind ≡ true → n ≡ notices.Prepare
      → IsIn (new_seat d.old d.request.participant kind) d.gives.transaction.seats
      → p ≡ notice_post b.base (seat_target d.old.id (new_seat d.old d.request.participant kind)) d.request.participant notices.Prepare → Asks b e now entry o n p
  asks_no_seat : (d : Answered b e now entry o) (id : Numbers) (s : Seat) (to : Epr) → d.arrived.target ≡ targets.Coordinator id s → s.kind ≡ kinds.Durable
      → IsUnknownAt b (targets.Coordinator id s) → d.arrived.message ≡ messages.Notice notices.Prepared → d.arrived.from ≡ Some to → n ≡ notices.Rollback
      → p ≡ stranger_post b.base (targets.Coordinator id s) to notices.Rollback → Asks b e now entry o n p
  asks_completion : (d : ActivityDid b e now entry o) (to : Epr) → Completes n → d.old.coordinator ≡ Some to → p ≡ notice_post b.base (activity_target d.old) to n
      → Asks b e now entry o n p

-- Why a Prepared or a ReadOnly is posted: by a subordinate, or by a participant that does work of its own.
pub data Votes (b : Book) (e : Event) (now : ℕ) (entry : Option Record) (o : Outcome) (n : Notice) (p : Post) : Type 0 where
  votes_under : (d : TransactionDid b e now entry o) (kind : Kind) (to : Epr) → coordinator_at kind d.old.superior ≡ Some to → WhySuperior d.old d.deed.how d.deed.at kind n
      → IsFrom b.base (targets.Participant d.old.id kind) to n p → Votes b e now entry o n p
  votes_alone : (d : LeafDid b e now entry o) (to : Epr) → d.old.coordinator ≡ Some to → LeafSays (moment_of b now) e d.old d.change p
      → p ≡ leaf_notice_to (moment_of b now) d.old to n → Votes b e now entry o n p

pub record StepsSense : Type 0 where
  pub asks : (b : Book) (e : Event) (now : ℕ) (landed : Bool) → IsReady b → (p : Post) (n : Notice) → IsIn (outs.Post p) (step b e now landed).outs → p.message ≡ messages.Notice n
      → sense n ≡ Ask → Asks b e now (standing landed (plan b e now).entry) (step b e now landed) n p
  pub votes : (b : Book) (e : Event) (now : ℕ) (landed : Bool) → IsReady b → (p : Post) (n : Notice) → IsIn (outs.Post p) (step b e now landed).outs → p.message ≡ messages.Notice n
      → sense n ≡ Vote → Votes b e now (standing landed (plan b e now).entry) (step b e now landed) n p
