-- The phases of a transaction, from the first Prepare to the end.
use Rattle.std.specs.Prelude.{ℕ, List, [], Option, Some, None, if◌then◌else◌}
use Rattle.std.specs.List.{list_any}
use Rattle.at_base.specs.Numbers.{Numbers}
use Rattle.at_base.specs.declared.epr.Epr.{Epr}
use Rattle.at_base.specs.declared.notice.Kind.{Kind}
use Rattle.at_base.specs.declared.notice.Kind.TheVariants as kinds
use Rattle.at_base.specs.declared.notice.Notice.{Notice}
use Rattle.at_base.specs.declared.notice.Notice.TheVariants as notices
use Rattle.at_base.specs.declared.target.Target.TheVariants as targets
use Rattle.at_base.specs.declared.record.Record.TheVariants as records
use Rattle.at_base.specs.declared.event.Moment.{Moment}
use Rattle.at_base.specs.declared.outs.Post.{Post}
use Rattle.at_base.specs.declared.outs.Ending.TheVariants as endings
use Rattle.at_tables.specs.declared.cells.State.TheVariants as states
use Rattle.at_tables.specs.Names.{is_state}
use Rattle.at_model.specs.Book.{Transaction, Link, Superior, Phase}
use Rattle.at_model.specs.Posts.{notice_post, to_each}
use Rattle.at_model.specs.Moves.{Change, Moving, Decision, Goes, Records, posts, effect, become, stays, forgotten}
use Rattle.at_model.specs.Seats.{in_state, is_of, answered, all_left, is_prepared_durable, prepared, send_each, in_phase, link_in, ending, initiator_posts, completion_in}
use Rattle.at_model.specs.Abort.{until_rolled_back, abort, Alone}

-- To the superior, on a link that knows its endpoint.
abbrev pub upwards : List ℕ → Numbers → Kind → Notice → Link → List Post
upwards base id kind n link = to_each link.coordinator (λ to. notice_post base (targets.Participant id kind) to n)

-- Commit to every Prepared seat, in order; the seats then are Committing (WS-AtomicTransaction 1.2, section 3.3.3).
abbrev pub commit_seats : Moment → Moving Transaction → Moving Transaction
commit_seats m g = send_each m notices.Commit states.Committing (in_state states.Prepared) g

-- A root's decision: Commit to every Prepared seat, then Committed to the initiator, whose seat is Done from then on.
unfoldable pub decided : Moment → Moving Transaction → Moving Transaction
decided m g =
    posts (initiator_posts m.base g.item.id notices.Committed g.item.completion)
    (become (record (commit_seats m g).item { phase = Phase.Committing; completion = completion_in states.Done g.item.completion })
    (commit_seats m (effect (ending g.item endings.Committed) g)))

-- A decided root waits for its durable seats; where none is Prepared nobody waits for it.
unfoldable pub committed : Moment → Moving Transaction → Change Transaction
committed m g = if list_any is_prepared_durable g.item.seats then stays (decided m g) else forgotten (decided m g)

-- Every durable seat of a root has answered: the decision is recorded first, with the seats that are Prepared, also where
-- none is; where that record is absent the transaction aborts (WS-AtomicTransaction 1.2, sections 3.3.3 and 3.3.4).
unfoldable pub root_answered : Moment → Moving Transaction → Decision Transaction
root_answered m g = Records (records.Decided g.item.id (prepared g.item.seats)) (committed m g) (Some (abort m Alone g))

-- A subordinate's vote: Prepared upwards.
unfoldable pub voted : Moment → Superior → Moving Transaction → Moving Transaction
voted m s g =
    posts (upwards m.base g.item.id kinds.Durable notices.Prepared s.durable)
    (become (record g.item {
      superior = Some (link_in kinds.Durable states.PreparedSuccess s);
      phase = Phase.Voted;
      sent = Some m.now;
    }) g)

-- Every durable seat of a subordinate has answered: with one Prepared the vote is recorded first, and where that record
-- is absent the subordinate aborts; with none it votes ReadOnly and is forgotten (WS-AtomicTransaction 1.2, section
-- 3.3.3).
unfoldable pub sub_answered : Moment → Superior → Option Epr → Moving Transaction → Decision Transaction
sub_answered m s None g = Goes (abort m Alone g)
sub_answered m s (Some superior) g =
    if list_any is_prepared_durable g.item.seats
    then Records (records.Voted g.item.id superior (prepared g.item.seats)) (stays (voted m s g)) (Some (abort m Alone g))
    else Goes (forgotten (posts (upwards m.base g.item.id kinds.Durable notices.ReadOnly s.durable) g))

abbrev pub durable_answered : Moment → Option Superior → Moving Transaction → Decision Transaction
durable_answered m None g = root_answered m g
durable_answered m (Some s) g = sub_answered m s s.durable.coordinator g

abbrev pub if_durable_answered : Moment → Moving Transaction → Decision Transaction
if_durable_answered m g =
    if answered kinds.Durable g.item.seats then durable_answered m g.item.superior g else Goes (stays g)

-- Every Active seat of the kind gets Prepare.
abbrev pub prepare_seats : Moment → Kind → Moving Transaction → Moving Transaction
prepare_seats m kind g = send_each m notices.Prepare states.Preparing (is_of kind states.Active) g

-- The second phase of asking: Prepare to the durable seats, once every volatile one has answered
-- (WS-AtomicTransaction 1.2, section 3.3.1).
unfoldable pub go_durable : Moment → Moving Transaction → Decision Transaction
go_durable m g =
    if_durable_answered m (prepare_seats m kinds.Durable (become (in_phase Phase.Durable g.item) g))

-- Every volatile seat has answered: a volatile link that was asked answers ReadOnly, and the transaction is Active
-- again; a root, or a durable link that was asked, goes on to the durable seats.
unfoldable pub volatile_answered : Moment → Option Superior → Moving Transaction → Decision Transaction
volatile_answered m None g = go_durable m g
volatile_answered m (Some s) g =
    if is_state s.volatile.state states.Preparing
    then Goes (stays
    (posts (upwards m.base g.item.id kinds.Volatile notices.ReadOnly s.volatile)
    (become (record g.item { superior = Some (link_in kinds.Volatile states.None s); phase = Phase.Active }) g)))
    else if is_state s.durable.state states.Preparing then go_durable m g
    else Goes (stays g)

-- Every durable seat has left after the decision: a subordinate tells its superior Committed (WS-AtomicTransaction 1.2,
-- section 3.3.3).
abbrev pub ended_posts : List ℕ → Numbers → Option Superior → List Post
ended_posts base id None = []
ended_posts base id (Some s) = upwards base id kinds.Durable notices.Committed s.durable

unfoldable pub all_committed : Moment → Moving Transaction → Decision Transaction
all_committed m g =
    Records (records.Ended g.item.id) (forgotten (posts (ended_posts m.base g.item.id g.item.superior) g)) None

-- What a phase waits for, and what follows.
unfoldable pub advance_in : Moment → Phase → Moving Transaction → Decision Transaction
advance_in m Phase.Registering g = Goes (stays g)
advance_in m Phase.Active g = Goes (stays g)
advance_in m Phase.Volatile g =
    if answered kinds.Volatile g.item.seats then volatile_answered m g.item.superior g else Goes (stays g)
advance_in m Phase.Durable g = if_durable_answered m g
advance_in m Phase.Voted g = Goes (stays g)
advance_in m Phase.Committing g = if all_left g.item.seats then all_committed m g else Goes (stays g)
advance_in m Phase.Aborting g = Goes (until_rolled_back g)

abbrev pub advance : Moment → Moving Transaction → Decision Transaction
advance m g = advance_in m g.item.phase g

-- The first phase of asking: Prepare to the volatile seats (WS-AtomicTransaction 1.2, section 3.3.1).
unfoldable pub go_volatile : Moment → Moving Transaction → Decision Transaction
go_volatile m g = advance m (prepare_seats m kinds.Volatile (become (in_phase Phase.Volatile g.item) g))
