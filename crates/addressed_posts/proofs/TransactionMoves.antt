-- What the moves of a transaction post goes to some endpoint: its aborts and its phases.
use Rattle.std.specs.Prelude.{ℕ, List, [], ◌∷◌, Option, Some, None, Bool, if◌then◌else◌, filter, refl}
use Rattle.std.specs.List.{list_any}
use Rattle.at_base.specs.Numbers.{Numbers}
use Rattle.at_base.specs.declared.epr.Epr.{Epr}
use Rattle.at_base.specs.declared.event.Moment.{Moment}
use Rattle.at_base.specs.declared.notice.Kind.{Kind}
use Rattle.at_base.specs.declared.notice.Kind.TheVariants as kinds
use Rattle.at_base.specs.declared.notice.Notice.{Notice}
use Rattle.at_base.specs.declared.notice.Notice.TheVariants as notices
use Rattle.at_base.specs.declared.outs.Ending.TheVariants as endings
use Rattle.at_base.specs.declared.outs.Post.{Post}
use Rattle.at_base.specs.declared.record.Record.TheVariants as records
use Rattle.at_base.specs.declared.target.Target.TheVariants as targets
use Rattle.at_tables.specs.declared.cells.State.{State}
use Rattle.at_tables.specs.declared.cells.State.TheVariants as states
use Rattle.at_tables.specs.Names.{is_state}
use Rattle.at_model.specs.Abort.{Alone, Reason, abort, from_of, link_aborted, links_aborted, until_rolled_back, without_links}
use Rattle.at_model.specs.Book.{Completion, Enlistment, Link, Phase, Superior, Transaction}
use Rattle.at_model.specs.Moves.{Goes, Moving, Records, become, effect, forgotten, posts, stays}
use Rattle.at_model.specs.Phases.{advance, advance_in, all_committed, commit_seats, committed, decided, durable_answered, ended_posts, go_durable, go_volatile, if_durable_answered, prepare_seats, root_answered, sub_answered, upwards, volatile_answered, voted}
use Rattle.at_model.specs.Posts.{notice_post, stored_or, to_each}
use Rattle.at_model.specs.Seats.{all_left, answered, completion_in, ending, in_phase, in_state, initiator_posts, is_of, is_open, is_prepared_durable, link_in, notices_to, prepared, seat_target, send_each}
use Rattle.model_laws.proofs.DecisionLaws.{either_left}
use Rattle.addressed_posts.proofs.Directed.{AreDirected, Decides, Directs, choice, either, join, to_all, to_one}

notices_directed : (base : List ℕ) (id : Numbers) (n : Notice) (seats : List Enlistment) (test : Enlistment → Bool) → AreDirected (notices_to base id n seats test)
notices_directed base id n seats test = to_all (λ s. notice_post base (seat_target id s) s.participant n) (filter test seats) (λ s. (s.participant, refl))

initiator_directed : (base : List ℕ) (id : Numbers) (n : Notice) (c : Option Completion) → AreDirected (initiator_posts base id n c)
initiator_directed base id n None = tt
initiator_directed base id n (Some c) =
    choice (is_state c.state states.None) [] (notice_post base (targets.Completion id) c.initiator n ∷ []) tt ((c.initiator, refl), tt)

pub upwards_directed : (base : List ℕ) (id : Numbers) (kind : Kind) (n : Notice) (link : Link) → AreDirected (upwards base id kind n link)
upwards_directed base id kind n link = to_one link.coordinator (λ to. notice_post base (targets.Participant id kind) to n) (λ to. (to, refl))

link_aborted_directed : (base : List ℕ) (id : Numbers) (reason : Reason) (kind : Kind) (link : Link) → AreDirected (link_aborted base id reason kind link)
link_aborted_directed base id reason kind link =
    let to_whom : Option Epr = stored_or link.coordinator (from_of reason kind) in
    let says : Epr → Post = λ to. notice_post base (targets.Participant id kind) to notices.Aborted in
    choice _ [] (to_each to_whom says) tt (to_one to_whom says (λ to. (to, refl)))

links_aborted_directed : (base : List ℕ) (id : Numbers) (reason : Reason) (s : Option Superior) → AreDirected (links_aborted base id reason s)
links_aborted_directed base id reason None = tt
links_aborted_directed base id reason (Some s) =
    join (link_aborted base id reason kinds.Volatile s.volatile) (link_aborted base id reason kinds.Durable s.durable)
    (link_aborted_directed base id reason kinds.Volatile s.volatile) (link_aborted_directed base id reason kinds.Durable s.durable)

ended_directed : (base : List ℕ) (id : Numbers) (s : Option Superior) → AreDirected (ended_posts base id s)
ended_directed base id None = tt
ended_directed base id (Some s) = upwards_directed base id kinds.Durable notices.Committed s.durable

rolled_back : (g : Moving Transaction) → AreDirected g.posts → Directs (until_rolled_back g)
rolled_back g h = either_left Directs (list_any (in_state states.Aborting) g.item.seats) (stays g) (forgotten g) h h

module _ (m : Moment) where
  send_directed : (n : Notice) (state : State) (test : Enlistment → Bool) (g : Moving Transaction) → AreDirected g.posts → AreDirected (send_each m n state test g).posts
  send_directed n state test g h = join g.posts (notices_to m.base g.item.id n g.item.seats test) h (notices_directed m.base g.item.id n g.item.seats test)

  pub abort_directs : (reason : Reason) (g : Moving Transaction) → AreDirected g.posts → Directs (abort m reason g)
  unfolding abort
  abort_directs reason g h =
      let told : List Post = links_aborted m.base g.item.id reason g.item.superior in
      let above : Moving Transaction = become (record g.item {
        superior = without_links g.item.superior;
        phase = Phase.Aborting;
        aborted = Some m.now;
        completion = completion_in states.None g.item.completion;
      }) (posts told (effect (ending g.item endings.Aborted) g)) in
      let below : Moving Transaction = send_each m notices.Rollback states.Aborting is_open above in
      let last : List Post = initiator_posts m.base g.item.id notices.Aborted g.item.completion in
      rolled_back (posts last below)
      (join below.posts last
      (send_directed notices.Rollback states.Aborting is_open above (join g.posts told h (links_aborted_directed m.base g.item.id reason g.item.superior)))
      (initiator_directed m.base g.item.id notices.Aborted g.item.completion))

  pub commit_directed : (g : Moving Transaction) → AreDirected g.posts → AreDirected (commit_seats m g).posts
  commit_directed g h = send_directed notices.Commit states.Committing (in_state states.Prepared) g h

  decided_directed : (g : Moving Transaction) → AreDirected g.posts → AreDirected (decided m g).posts
  unfolding decided
  decided_directed g h =
      let first : Moving Transaction = effect (ending g.item endings.Committed) g in
      join (commit_seats m first).posts (initiator_posts m.base g.item.id notices.Committed g.item.completion) (commit_directed first h)
      (initiator_directed m.base g.item.id notices.Committed g.item.completion)

  root_decides : (g : Moving Transaction) → AreDirected g.posts → Decides (root_answered m g)
  unfolding root_answered committed
  root_decides g h = record {
    entry = tt;
    landed = either_left Directs (list_any is_prepared_durable g.item.seats) (stays (decided m g)) (forgotten (decided m g)) (decided_directed g h) (decided_directed g h);
    otherwise = abort_directs Alone g h;
  }

  sub_decides : (s : Superior) (superior : Option Epr) (g : Moving Transaction) → AreDirected g.posts → Decides (sub_answered m s superior g)
  unfolding sub_answered voted
  sub_decides s None g h = abort_directs Alone g h
  sub_decides s (Some superior) g h =
      let said : List Post = upwards m.base g.item.id kinds.Durable notices.ReadOnly s.durable in
      let vote : List Post = upwards m.base g.item.id kinds.Durable notices.Prepared s.durable in
      either (list_any is_prepared_durable g.item.seats)
      (Records (records.Voted g.item.id superior (prepared g.item.seats)) (stays (voted m s g)) (Some (abort m Alone g)))
      (Goes (forgotten (posts said g)))
      (record {
        entry = tt;
        landed = join g.posts vote h (upwards_directed m.base g.item.id kinds.Durable notices.Prepared s.durable);
        otherwise = abort_directs Alone g h;
      })
      (join g.posts said h (upwards_directed m.base g.item.id kinds.Durable notices.ReadOnly s.durable))

  durable_decides : (s : Option Superior) (g : Moving Transaction) → AreDirected g.posts → Decides (durable_answered m s g)
  durable_decides None g h = root_decides g h
  durable_decides (Some s) g h = sub_decides s s.durable.coordinator g h

  if_durable_decides : (g : Moving Transaction) → AreDirected g.posts → Decides (if_durable_answered m g)
  if_durable_decides g h =
      either (answered kinds.Durable g.item.seats) (durable_answered m g.item.superior g) (Goes (stays g)) (durable_decides g.item.superior g h) h

  go_durable_decides : (g : Moving Transaction) → AreDirected g.posts → Decides (go_durable m g)
  unfolding go_durable
  go_durable_decides g h =
      let first : Moving Transaction = become (in_phase Phase.Durable g.item) g in
      if_durable_decides (prepare_seats m kinds.Durable first)
      (send_directed notices.Prepare states.Preparing (is_of kinds.Durable states.Active) first h)

  volatile_decides : (s : Option Superior) (g : Moving Transaction) → AreDirected g.posts → Decides (volatile_answered m s g)
  unfolding volatile_answered
  volatile_decides None g h = go_durable_decides g h
  volatile_decides (Some s) g h =
      let said : List Post = upwards m.base g.item.id kinds.Volatile notices.ReadOnly s.volatile in
      let active : Moving Transaction = become (record g.item { superior = Some (link_in kinds.Volatile states.None s); phase = Phase.Active }) g in
      either (is_state s.volatile.state states.Preparing) (Goes (stays (posts said active)))
      (if is_state s.durable.state states.Preparing then go_durable m g else Goes (stays g))
      (join g.posts said h (upwards_directed m.base g.item.id kinds.Volatile notices.ReadOnly s.volatile))
      (either (is_state s.durable.state states.Preparing) (go_durable m g) (Goes (stays g)) (go_durable_decides g h) h)

  all_committed_decides : (g : Moving Transaction) → AreDirected g.posts → Decides (all_committed m g)
  unfolding all_committed
  all_committed_decides g h = record {
    entry = tt;
    landed = join g.posts (ended_posts m.base g.item.id g.item.superior) h (ended_directed m.base g.item.id g.item.superior);
    otherwise = tt;
  }

  advance_in_decides : (phase : Phase) (g : Moving Transaction) → AreDirected g.posts → Decides (advance_in m phase g)
  unfolding advance_in
  advance_in_decides Phase.Volatile g h =
      either (answered kinds.Volatile g.item.seats) (volatile_answered m g.item.superior g) (Goes (stays g)) (volatile_decides g.item.superior g h) h
  advance_in_decides Phase.Durable g h = if_durable_decides g h
  advance_in_decides Phase.Committing g h =
      either (all_left g.item.seats) (all_committed m g) (Goes (stays g)) (all_committed_decides g h) h
  advance_in_decides Phase.Aborting g h = rolled_back g h
  advance_in_decides other g h = h

  pub advance_decides : (g : Moving Transaction) → AreDirected g.posts → Decides (advance m g)
  advance_decides g h = advance_in_decides g.item.phase g h

  pub go_volatile_decides : (g : Moving Transaction) → AreDirected g.posts → Decides (go_volatile m g)
  unfolding go_volatile
  go_volatile_decides g h =
      let first : Moving Transaction = become (in_phase Phase.Volatile g.item) g in
      advance_in_decides Phase.Volatile (prepare_seats m kinds.Volatile first)
      (send_directed notices.Prepare states.Preparing (is_of kinds.Volatile states.Active) first h)
