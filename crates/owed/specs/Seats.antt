-- What a step owes the participants of a seat.
use Rattle.std.specs.List.{AllByRecursion}
use Rattle.std.specs.Prelude.{ℕ, List, [], ◌∷◌, Option, Some, None, true, ◌≡◌, ◌⊎◌}
use Rattle.at_base.specs.Numbers.{Numbers}
use Rattle.at_base.specs.declared.epr.Epr.{Epr}
use Rattle.at_base.specs.declared.message.Message.TheVariants as messages
use Rattle.at_base.specs.declared.notice.Kind.TheVariants as kinds
use Rattle.at_base.specs.declared.notice.Notice.{Notice}
use Rattle.at_base.specs.declared.notice.Notice.TheVariants as notices
use Rattle.at_base.specs.declared.event.Event.{Event}
use Rattle.at_base.specs.declared.event.Arrived.{Arrived}
use Rattle.at_base.specs.declared.event.Event.TheVariants as events
use Rattle.at_base.specs.declared.outs.Out.{Out}
use Rattle.at_base.specs.declared.outs.Out.TheVariants as outs
use Rattle.at_base.specs.declared.outs.Post.{Post}
use Rattle.at_base.specs.declared.target.Seat.{Seat}
use Rattle.at_base.specs.declared.target.Target.TheVariants as targets
use Rattle.at_tables.specs.declared.cells.State.TheVariants as states
use Rattle.at_model.specs.Book.{Book, Enlistment, Transaction}
use Rattle.at_model.specs.Posts.{notice_post}
use Rattle.at_model.specs.Seats.{seat_target}
use Rattle.at_model.specs.Step.{step, transaction_at}
use Rattle.model_laws.specs.Agreement.{IsIn}
use Rattle.model_laws.specs.PhaseAnswers.{accepted_as}
use Rattle.model_laws.specs.Shapes.{IsUnknownAt}
use Rattle.agreement.specs.Deeds.{ParticipantSaid}
use Rattle.enlistments.specs.Moves.{IsReady}
use Rattle.owed.specs.Shape.{AreShaped}

-- the notification that goes from this seat to its participant
abbrev pub seat_post : List ℕ → Numbers → Enlistment → Notice → Post
seat_post base id s n = notice_post base (seat_target id s) s.participant n

-- what a participant answers
abbrev pub AnswersSeat : Notice → Type 0
AnswersSeat notices.Prepared = Unit {0}
AnswersSeat notices.ReadOnly = Unit {0}
AnswersSeat notices.Aborted = Unit {0}
AnswersSeat notices.Committed = Unit {0}
AnswersSeat other = ⊥

abbrev pub HasAnswered : Event → Transaction → Enlistment → Type 0
HasAnswered e t s = (n : Notice) × AnswersSeat n × ParticipantSaid n e t s

-- a notification goes to this endpoint
abbrev pub Tells : Option Epr → Notice → List Post → Type 0
Tells to n ps = (p : Post) × IsIn p ps × (p.to ≡ to) × (p.message ≡ messages.Notice n)

-- the outcome is told there
abbrev pub TellsOutcome : Option Epr → List Post → Type 0
TellsOutcome to ps = Tells to notices.Commit ps ⊎ Tells to notices.Rollback ps

abbrev pub IsTold : List Post → Enlistment → Type 0
IsTold ps s = TellsOutcome (Some s.participant) ps

-- it is Prepared, or its participant says so now
abbrev pub SaysPrepared : Event → Transaction → Enlistment → Type 0
SaysPrepared e t s = (s.state ≡ states.Prepared) ⊎ ParticipantSaid notices.Prepared e t s

-- A durable seat that was Prepared, or hears so, is Prepared behind the step, or is told the outcome.
abbrev pub IsKept : Event → Transaction → List Post → Enlistment → Enlistment → Type 0
IsKept e t ps old new =
    (accepted_as new ≡ accepted_as old)
    × (old.kind ≡ kinds.Durable → SaysPrepared e t old → (new.state ≡ states.Prepared) ⊎ IsTold ps old)

-- A seat that is Preparing is asked now, or was, and hasn't answered by this event; and one that is Committing likewise.
abbrev pub IsAsked : List ℕ → Event → Transaction → List Post → Enlistment → Enlistment → Type 0
IsAsked base e t ps old new =
    (new.state ≡ states.Preparing → ((old.state ≡ states.Preparing) × (HasAnswered e t old → ⊥)) ⊎ IsIn (seat_post base t.id old notices.Prepare) ps)
    × (new.state ≡ states.Committing
    → ((old.state ≡ states.Committing) × (ParticipantSaid notices.Committed e t old → ⊥)) ⊎ IsIn (seat_post base t.id old notices.Commit) ps)

abbrev pub IsOwed : List ℕ → Event → Transaction → List Post → Enlistment → Enlistment → Type 0
IsOwed base e t ps old new = IsKept e t ps old new × IsAsked base e t ps old new

-- seat by seat
abbrev pub Pairs : (Enlistment → Enlistment → Type 0) → List Enlistment → List Enlistment → Type 0
Pairs R [] [] = Unit {0}
Pairs R (o ∷ os) (n ∷ ns) = R o n × Pairs R os ns
Pairs R olds news = ⊥

-- what a step posts
abbrev pub posts_of : List Out → List Post
posts_of [] = []
posts_of (outs.Post p ∷ os) = p ∷ posts_of os
posts_of (outs.Answer status reply ∷ os) = posts_of os

-- A participant that registers is asked at once, or later.
abbrev pub IsNew : List ℕ → Transaction → List Post → Enlistment → Type 0
IsNew base t ps s =
    (s.state ≡ states.Preparing → IsIn (seat_post base t.id s notices.Prepare) ps) × ((s.state ≡ states.Committing → ⊥) × (s.state ≡ states.Prepared → ⊥))

-- seat by seat, and seats that are new
abbrev pub PairsOrNew : (Enlistment → Enlistment → Type 0) → (Enlistment → Type 0) → List Enlistment → List Enlistment → Type 0
PairsOrNew R N [] news = AllByRecursion N news
PairsOrNew R N (o ∷ os) [] = ⊥
PairsOrNew R N (o ∷ os) (n ∷ ns) = R o n × PairsOrNew R N os ns

-- A transaction before and behind a step that posts these: it posts what it then owes the participants of its seats, and
-- where it is forgotten, it tells the outcome to each that is Prepared. One that is made has no seats.
abbrev pub AreOwed : List ℕ → Event → List Post → Option Transaction → Option Transaction → Type 0
AreOwed base e ps None None = Unit {0}
AreOwed base e ps None (Some new) = new.seats ≡ []
AreOwed base e ps (Some old) None = AllByRecursion (λ s. s.kind ≡ kinds.Durable → SaysPrepared e old s → IsTold ps s) old.seats
AreOwed base e ps (Some old) (Some new) = (new.id ≡ old.id) × PairsOrNew (IsOwed base e old ps) (IsNew base old ps) old.seats new.seats

-- So does each step whose record lands; and a Prepared of a durable participant that isn't known is answered with Rollback:
-- abort is presumed (WS-AtomicTransaction 1.2, section 3.3.4).
pub record StepsOweSeats : Type 0 where
  pub seats : (b : Book) (e : Event) (now : ℕ) → IsReady b → AreShaped b → (id : Numbers)
      → AreOwed b.base e (posts_of (step b e now true).outs) (transaction_at b id) (transaction_at (step b e now true).book id)
  pub unknown : (b : Book) (a : Arrived) (now : ℕ) (id : Numbers) (s : Seat) → a.target ≡ targets.Coordinator id s → s.kind ≡ kinds.Durable → IsUnknownAt b (targets.Coordinator id s)
      → a.message ≡ messages.Notice notices.Prepared → (to : Epr) → a.from ≡ Some to → Tells (Some to) notices.Rollback (posts_of (step b (events.Arrived a) now true).outs)
