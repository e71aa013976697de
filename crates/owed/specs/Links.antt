-- What a subordinate's link owes its coordinator.
use Rattle.std.specs.Prelude.{ℕ, List, Option, Some, None, true, ◌≡◌, ◌⊎◌}
use Rattle.at_base.specs.Numbers.{Numbers}
use Rattle.at_base.specs.declared.epr.Epr.{Epr}
use Rattle.at_base.specs.declared.notice.Kind.{Kind}
use Rattle.at_base.specs.declared.notice.Kind.TheVariants as kinds
use Rattle.at_base.specs.declared.notice.Notice.{Notice}
use Rattle.at_base.specs.declared.notice.Notice.TheVariants as notices
use Rattle.at_base.specs.declared.message.Message.TheVariants as messages
use Rattle.at_base.specs.declared.event.Arrived.{Arrived}
use Rattle.at_base.specs.declared.event.Event.{Event}
use Rattle.at_base.specs.declared.event.Event.TheVariants as events
use Rattle.at_base.specs.declared.outs.Post.{Post}
use Rattle.at_base.specs.declared.target.Target.TheVariants as targets
use Rattle.at_tables.specs.declared.cells.State.{State}
use Rattle.at_tables.specs.declared.cells.State.TheVariants as states
use Rattle.at_model.specs.Book.{Book, Superior, Transaction}
use Rattle.at_model.specs.Posts.{notice_post, stored_or}
use Rattle.at_model.specs.Seats.{link_of}
use Rattle.at_model.specs.Step.{step, transaction_at}
use Rattle.model_laws.specs.Agreement.{IsIn}
use Rattle.model_laws.specs.Shapes.{IsUnknownAt}
use Rattle.agreement.specs.Deeds.{SuperiorSaid}
use Rattle.enlistments.specs.Moves.{IsReady}
use Rattle.owed.specs.Seats.{AnswersSeat, Tells, posts_of}
use Rattle.owed.specs.Shape.{AreShaped}

-- a link that is asked, or told to commit, and hasn't answered
abbrev pub IsBusy : State → Type 0
IsBusy states.Preparing = Unit {0}
IsBusy states.Committing = Unit {0}
IsBusy other = ⊥

-- an answer goes to this endpoint
abbrev pub TellsAnswer : Epr → List Post → Type 0
TellsAnswer to ps = (n : Notice) × AnswersSeat n × Tells (Some to) n ps

-- the superior of what is left of a transaction
abbrev pub superior_left : Option Transaction → Option Superior
superior_left None = None
superior_left (Some t) = t.superior

-- it is busy still, with the same coordinator, or answers it
abbrev pub StaysBusy : Kind → Epr → List Post → Option Superior → Type 0
StaysBusy kind to ps None = TellsAnswer to ps
StaysBusy kind to ps (Some s) = (IsBusy (link_of kind s).state × ((link_of kind s).coordinator ≡ Some to)) ⊎ TellsAnswer to ps

-- it commits still, with the same coordinator, or tells it Committed
abbrev pub StaysCommitting : Epr → List Post → Option Superior → Type 0
StaysCommitting to ps None = Tells (Some to) notices.Committed ps
StaysCommitting to ps (Some s) = ((s.durable.state ≡ states.Committing) × (s.durable.coordinator ≡ Some to)) ⊎ Tells (Some to) notices.Committed ps

-- Prepared goes from this subordinate to its coordinator
abbrev pub SaysVote : List ℕ → Numbers → Option Epr → List Post → Type 0
SaysVote base id coordinator ps = (to : Epr) × (coordinator ≡ Some to) × IsIn (notice_post base (targets.Participant id kinds.Durable) to notices.Prepared) ps

-- one that has voted had voted, with the same coordinator, or says so now
abbrev pub HasVotedSo : List ℕ → Numbers → Superior → List Post → Option Superior → Type 0
HasVotedSo base id s ps None = Unit {0}
HasVotedSo base id s ps (Some new) =
    new.durable.state ≡ states.PreparedSuccess
    → ((s.durable.state ≡ states.PreparedSuccess) × (new.durable.coordinator ≡ s.durable.coordinator)) ⊎ SaysVote base id new.durable.coordinator ps

-- one that hasn't voted
abbrev pub IsEarly : State → Type 0
IsEarly states.Registering = Unit {0}
IsEarly states.Active = Unit {0}
IsEarly states.Preparing = Unit {0}
IsEarly other = ⊥

abbrev pub LinkIsBusy : Kind → Option Superior → Type 0
LinkIsBusy kind None = ⊥
LinkIsBusy kind (Some s) = IsBusy (link_of kind s).state

abbrev pub CommitsIn : Option Superior → Type 0
CommitsIn None = ⊥
CommitsIn (Some s) = s.durable.state ≡ states.Committing

-- A Prepare that comes on a link which has registered is answered, or the link is busy with it: the answer goes to the
-- coordinator where that is known, else to the message's From.
abbrev pub AnswersPrepare : Event → Transaction → Superior → List Post → Option Superior → Type 0
AnswersPrepare e t s ps o =
    (kind : Kind) (h : SuperiorSaid kind notices.Prepare e t) (to : Epr) → ((link_of kind s).state ≡ states.Registering → ⊥)
    → stored_or (link_of kind s).coordinator h.message.from ≡ Some to → LinkIsBusy kind o ⊎ TellsAnswer to ps

-- A Commit that comes behind the vote is answered with Committed, or the link commits.
abbrev pub AnswersCommit : Event → Transaction → Superior → List Post → Option Superior → Type 0
AnswersCommit e t s ps o =
    (h : SuperiorSaid kinds.Durable notices.Commit e t) (to : Epr) → (IsEarly s.durable.state → ⊥) → stored_or s.durable.coordinator h.message.from ≡ Some to
    → CommitsIn o ⊎ Tells (Some to) notices.Committed ps

-- A busy link stays busy or answers, but where a Commit comes before its vote, or a durable Prepare beside a volatile link.
abbrev pub IsExcused : Event → Transaction → Kind → Superior → Type 0
IsExcused e t kind s =
    (((link_of kind s).state ≡ states.Preparing) × SuperiorSaid kind notices.Commit e t) ⊎ ((kind ≡ kinds.Volatile) × SuperiorSaid kinds.Durable notices.Prepare e t)

abbrev pub KeepsBusy : Event → Transaction → Superior → List Post → Option Superior → Type 0
KeepsBusy e t s ps o =
    (kind : Kind) (to : Epr) → (IsExcused e t kind s → ⊥) → IsBusy (link_of kind s).state → (link_of kind s).coordinator ≡ Some to → StaysBusy kind to ps o

abbrev pub KeepsCommitting : Superior → List Post → Option Superior → Type 0
KeepsCommitting s ps o = (to : Epr) → s.durable.state ≡ states.Committing → s.durable.coordinator ≡ Some to → StaysCommitting to ps o

-- A link that has voted had voted, with the same coordinator, and no outcome came by this event; or it says Prepared now.
abbrev pub KeepsVote : List ℕ → Event → Transaction → Superior → List Post → Option Superior → Type 0
KeepsVote base e t s ps None = Unit {0}
KeepsVote base e t s ps (Some new) =
    new.durable.state ≡ states.PreparedSuccess
    → (((s.durable.state ≡ states.PreparedSuccess) × (new.durable.coordinator ≡ s.durable.coordinator))
    × ((SuperiorSaid kinds.Durable notices.Commit e t → ⊥) × (SuperiorSaid kinds.Durable notices.Rollback e t → ⊥)))
    ⊎ SaysVote base t.id new.durable.coordinator ps

abbrev pub LinksOwed : List ℕ → Event → Transaction → Superior → List Post → Option Superior → Type 0
LinksOwed base e t s ps o =
    AnswersPrepare e t s ps o × (AnswersCommit e t s ps o × (KeepsBusy e t s ps o × (KeepsCommitting s ps o × KeepsVote base e t s ps o)))

-- So does each step of a book whose record lands; and where no participant is known, a Prepare is answered with Aborted, and
-- a Commit with Committed (WS-AtomicTransaction 1.2, section 3.3.4).
pub record StepsOweLinks : Type 0 where
  pub links : (b : Book) (e : Event) (now : ℕ) → IsReady b → AreShaped b → (t : Transaction) (s : Superior) → transaction_at b t.id ≡ Some t → t.superior ≡ Some s
      → LinksOwed b.base e t s (posts_of (step b e now true).outs) (superior_left (transaction_at (step b e now true).book t.id))
  pub unprepared : (b : Book) (a : Arrived) (now : ℕ) (id : Numbers) (kind : Kind) (to : Epr) → a.target ≡ targets.Participant id kind → IsUnknownAt b (targets.Participant id kind)
      → a.message ≡ messages.Notice notices.Prepare → a.from ≡ Some to → Tells (Some to) notices.Aborted (posts_of (step b (events.Arrived a) now true).outs)
  pub uncommitted : (b : Book) (a : Arrived) (now : ℕ) (id : Numbers) (kind : Kind) (to : Epr) → a.target ≡ targets.Participant id kind → IsUnknownAt b (targets.Participant id kind)
      → a.message ≡ messages.Notice notices.Commit → a.from ≡ Some to → Tells (Some to) notices.Committed (posts_of (step b (events.Arrived a) now true).outs)
