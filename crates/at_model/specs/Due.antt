-- What is due: expiry, the end of aborting, and sending again.
use Rattle.std.specs.Prelude.{ℕ, List, [], ◌∷◌, ◌++◌, Option, Some, None, Bool, true, false, nat_le, ◌&&◌, ◌||◌, ◌+◌, if◌then◌else◌}
use Rattle.at_base.specs.declared.limits.TheConstants.{RESEND_AFTER, ABORTING_FOR}
use Rattle.at_base.specs.Numbers.{Numbers}
use Rattle.at_base.specs.declared.notice.Kind.{Kind}
use Rattle.at_base.specs.declared.notice.Kind.TheVariants as kinds
use Rattle.at_base.specs.declared.notice.Notice.{Notice}
use Rattle.at_base.specs.declared.notice.Notice.TheVariants as notices
use Rattle.at_base.specs.declared.message.Context.{Context}
use Rattle.at_base.specs.declared.event.Moment.{Moment}
use Rattle.at_base.specs.declared.outs.Post.{Post}
use Rattle.at_base.specs.declared.outs.Told.TheVariants as tellings
use Rattle.at_tables.specs.declared.cells.State.{State}
use Rattle.at_tables.specs.declared.cells.State.TheVariants as states
use Rattle.at_tables.specs.Names.{is_state}
use Rattle.at_model.specs.Book.{Transaction, Leaf, Activity, Enlistment, Link, Superior, Request, WorkRequest, Phase, Progress}
use Rattle.at_model.specs.Posts.{notice_post}
use Rattle.at_model.specs.Moves.{Change, Decision, Goes, begin, posts, stays, forgotten, ignored}
use Rattle.at_model.specs.Seats.{seat_target, sent_now}
use Rattle.at_model.specs.Abort.{abort, Alone}
use Rattle.at_model.specs.Phases.{upwards}
use Rattle.at_model.specs.Create.{link_register}
use Rattle.at_model.specs.Leaves.{leaf_says, leaf_aborts, leaf_refused, leaf_register}
use Rattle.at_model.specs.Activities.{is_begun, told, completion_register, complete_posts}

abbrev pub has_come : ℕ → Option ℕ → Bool
has_come now None = false
has_come now (Some time) = nat_le time now

-- It hasn't sent since it was recovered, or its last sending is old.
abbrev pub is_quiet : ℕ → Option ℕ → Bool
is_quiet now None = true
is_quiet now (Some sent) = nat_le (sent + RESEND_AFTER) now

abbrev pub is_over : ℕ → Option ℕ → Bool
is_over now None = false
is_over now (Some aborted) = nat_le (aborted + ABORTING_FOR) now

-- An undecided transaction expires (WS-Coordination 1.2, section 2).
abbrev pub may_expire : Phase → Bool
may_expire Phase.Registering = true
may_expire Phase.Active = true
may_expire Phase.Volatile = true
may_expire Phase.Durable = true
may_expire Phase.Voted = false
may_expire Phase.Committing = false
may_expire Phase.Aborting = false

abbrev pub is_aborting : Phase → Bool
is_aborting Phase.Aborting = true
is_aborting Phase.Registering = false
is_aborting Phase.Active = false
is_aborting Phase.Volatile = false
is_aborting Phase.Durable = false
is_aborting Phase.Voted = false
is_aborting Phase.Committing = false

-- what a seat is asked that hasn't answered
abbrev pub unanswered_seat : State → Option Notice
unanswered_seat states.None = None
unanswered_seat states.Registering = None
unanswered_seat states.Active = None
unanswered_seat states.Preparing = Some notices.Prepare
unanswered_seat states.Prepared = None
unanswered_seat states.PreparedSuccess = None
unanswered_seat states.Committing = Some notices.Commit
unanswered_seat states.Aborting = Some notices.Rollback
unanswered_seat states.Completing = None
unanswered_seat states.Done = None

abbrev pub seat_again : List ℕ → Numbers → Enlistment → Option Notice → List Post
seat_again base id s None = []
seat_again base id s (Some n) = notice_post base (seat_target id s) s.participant n ∷ []

abbrev pub seats_again : List ℕ → Numbers → List Enlistment → List Post
seats_again base id [] = []
seats_again base id (s ∷ ss) = seat_again base id s (unanswered_seat s.state) ++ seats_again base id ss

abbrev pub register_again_at : List ℕ → Numbers → Kind → Option Request → List Post
register_again_at base id kind None = []
register_again_at base id kind (Some r) = link_register base id kind r.registration ∷ []

-- A link repeats its Register until it is answered, and its Prepared until the outcome comes.
abbrev pub link_again : List ℕ → Numbers → Kind → Option Request → Link → List Post
link_again base id kind r link =
    if is_state link.state states.Registering then register_again_at base id kind r
    else if is_state link.state states.PreparedSuccess then upwards base id kind notices.Prepared link
    else []

abbrev pub links_again : List ℕ → Numbers → Option Superior → List Post
links_again base id None = []
links_again base id (Some s) =
    link_again base id kinds.Volatile s.request s.volatile ++ link_again base id kinds.Durable s.request s.durable

-- All that a transaction sends again: the volatile link first, then the durable one, then the seats in order.
abbrev pub transaction_again : List ℕ → Transaction → List Post
transaction_again base t = links_again base t.id t.superior ++ seats_again base t.id t.seats

-- why an item is due
pub data Reached : Type 0 where
  Expired : Reached
  Over : Reached
  Unanswered : Reached
  Nothing : Reached

abbrev pub is_some_post : List Post → Bool
is_some_post [] = false
is_some_post (p ∷ ps) = true

-- The first cause that holds.
abbrev pub transaction_due : Moment → Transaction → Reached
transaction_due m t =
    if may_expire t.phase && has_come m.now t.deadline then Expired
    else if is_aborting t.phase && is_over m.now t.aborted then Over
    else if is_quiet m.now t.sent && is_some_post (transaction_again m.base t) then Unanswered
    else Nothing

-- An expired transaction aborts; one that was Aborting for long enough is forgotten and sends nothing; else it sends
-- again.
unfoldable pub transaction_reached : Moment → Transaction → Reached → Decision Transaction
transaction_reached m t Expired = Goes (abort m Alone (begin t))
transaction_reached m t Over = Goes (forgotten (begin t))
transaction_reached m t Unanswered = Goes (stays (posts (transaction_again m.base t) (begin (sent_now m t))))
transaction_reached m t Nothing = ignored t

abbrev pub leaf_register_again : Moment → Leaf → Option WorkRequest → List Post
leaf_register_again m l None = []
leaf_register_again m l (Some r) = leaf_register m l r.registration ∷ []

abbrev pub leaf_again : Moment → Leaf → List Post
leaf_again m l =
    if is_state l.state states.Registering then leaf_register_again m l l.request
    else if is_state l.state states.PreparedSuccess then leaf_says m None notices.Prepared l
    else []

abbrev pub leaf_due : Moment → Leaf → Reached
leaf_due m l =
    if (is_state l.state states.Registering || is_state l.state states.Active) && has_come m.now l.deadline then Expired
    else if is_quiet m.now l.sent && is_some_post (leaf_again m l) then Unanswered
    else Nothing

-- An expired leaf ends as aborted: an Active one says Aborted, one in Registering answers its Work with WorkRefused.
abbrev pub leaf_expires : Moment → Leaf → Change Leaf
leaf_expires m l = if is_state l.state states.Registering then leaf_refused l else leaf_aborts m None l

unfoldable pub leaf_reached : Moment → Leaf → Reached → Decision Leaf
leaf_reached m l Expired = Goes (leaf_expires m l)
leaf_reached m l Over = ignored l
leaf_reached m l Unanswered = Goes (stays (posts (leaf_again m l) (begin (record l { sent = Some m.now }))))
leaf_reached m l Nothing = ignored l

abbrev pub before_active : Progress → Bool
before_active Progress.Creating = true
before_active Progress.Registering = true
before_active Progress.Active = false
before_active (Progress.Completing n) = false

abbrev pub completion_register_again : List ℕ → Activity → Option Context → List Post
completion_register_again base a None = []
completion_register_again base a (Some context) = completion_register base a context.registration ∷ []

-- Create and Work aren't sent again.
abbrev pub activity_again : List ℕ → Activity → Progress → List Post
activity_again base a Progress.Creating = []
activity_again base a Progress.Registering = completion_register_again base a a.context
activity_again base a Progress.Active = []
activity_again base a (Progress.Completing n) = complete_posts base n a

abbrev pub activity_due : Moment → Activity → Reached
activity_due m a =
    if is_begun a && before_active a.progress && has_come m.now a.deadline then Expired
    else if is_quiet m.now a.sent && is_some_post (activity_again m.base a a.progress) then Unanswered
    else Nothing

-- A begun activity that expires before it is Active is told that the outcome is unknown.
unfoldable pub activity_reached : Moment → Activity → Reached → Decision Activity
activity_reached m a Expired = told tellings.Unknown a
activity_reached m a Over = ignored a
activity_reached m a Unanswered =
    Goes (stays (posts (activity_again m.base a a.progress) (begin (record a { sent = Some m.now }))))
activity_reached m a Nothing = ignored a
