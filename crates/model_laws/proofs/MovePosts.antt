-- What a move posts: a Register goes from the item itself to where it registers, which stays as it is; and a transaction
-- keeps its seats and its initiator.
use Rattle.std.specs.Prelude.{ℕ, List, [], ◌∷◌, ◌++◌, Option, Some, None, Bool, if◌then◌else◌, map, filter, option_map, ◌≡◌, ◌⊎◌, refl}
use Rattle.std.specs.List.{list_any, AllByRecursion}
use Rattle.std.proofs.Common.{inl, inr, sym, ap, ◌∙◌}
use Rattle.at_base.specs.declared.fault.Fault.TheVariants.{InvalidState}
use Rattle.at_base.specs.Numbers.{Numbers}
use Rattle.at_base.specs.declared.epr.Epr.{Epr}
use Rattle.at_base.specs.declared.epr.Reply.{Reply}
use Rattle.at_base.specs.declared.epr.Reply.TheVariants as replies
use Rattle.at_base.specs.declared.notice.Kind.{Kind}
use Rattle.at_base.specs.declared.notice.Kind.TheVariants as kinds
use Rattle.at_base.specs.declared.notice.Notice.{Notice}
use Rattle.at_base.specs.declared.notice.Notice.TheVariants as notices
use Rattle.at_base.specs.declared.notice.Vote.{Vote}
use Rattle.at_base.specs.declared.notice.Vote.TheVariants as votes
use Rattle.at_base.specs.declared.message.Message.{Message}
use Rattle.at_base.specs.declared.message.Message.TheVariants as messages
use Rattle.at_base.specs.declared.message.Context.{Context}
use Rattle.at_base.specs.declared.target.Target.TheVariants as targets
use Rattle.at_base.specs.declared.record.Record.TheVariants as records
use Rattle.at_base.specs.declared.event.Arrived.{Arrived}
use Rattle.at_base.specs.declared.event.Moment.{Moment}
use Rattle.at_base.specs.declared.outs.Post.{Post}
use Rattle.at_base.specs.declared.outs.Ending.TheVariants as endings
use Rattle.at_base.specs.declared.outs.Told.TheVariants as tellings
use Rattle.at_tables.specs.declared.cells.State.{State}
use Rattle.at_tables.specs.declared.cells.State.TheVariants as states
use Rattle.at_tables.specs.declared.cells.Act.{Act}
use Rattle.at_tables.specs.declared.cells.Act.TheVariants as acts
use Rattle.at_tables.specs.declared.cells.Cell.{Cell}
use Rattle.at_tables.specs.Names.{is_state}
use Rattle.at_tables.specs.Tables.{coordinator_of, participant_of, completion_of, initiator_of}
use Rattle.at_model.specs.Book.{Transaction, Leaf, Activity, Enlistment, Completion, Superior, Link, Request, WorkRequest, Phase, Progress}
use Rattle.endpoints.specs.Addresses.{endpoint_of, register_id, create_id}
use Rattle.at_model.specs.Posts.{notice_post, stranger_post, fault_post, reply_post, stored_or, to_each}
use Rattle.at_model.specs.Moves.{Moving, Change, Decision, Goes, Records, begin, post, posts, effect, become, stays, forgotten, ignored}
use Rattle.at_model.specs.Seats.{answered, all_left, is_open, is_of, in_state, is_prepared_durable, prepared, moved, seat_target, notices_to, send_each, seat_in, in_phase, set_link, link_of, link_in, under, ending, initiator_posts, completion_in}
use Rattle.at_model.specs.Abort.{Reason, Alone, Asked, Faulted, link_aborted, links_aborted, from_of, without_links, until_rolled_back, abort}
use Rattle.at_model.specs.Phases.{upwards, commit_seats, decided, committed, root_answered, voted, sub_answered, durable_answered, if_durable_answered, prepare_seats, go_durable, volatile_answered, ended_posts, all_committed, advance_in, go_volatile}
use Rattle.at_model.specs.Arrivals.{answer_seat, answer_left_seat, seat_act, seat_notice, commit_voted, asked, link_act, link_notice, completion_act, completion_notice, relates_to, registered, link_registered, link_fault, on_link, on_seat, on_completion, refused_at, refused_request, request_answered, is_registering, request_stands, request_under, request_left, answer_request, request_of, with_answer, context_of}
use Rattle.at_model.specs.Leaves.{leaf_target, leaf_says, leaf_faults, work_answer, leaf_aborts, leaf_commits, leaf_prepares, leaf_votes, leaf_records_vote, leaf_commit, leaf_roll_back, leaf_act, leaf_notice, answers_leaf, leaf_registered, leaf_refused, drops_leaf, leaf_fault, on_leaf}
use Rattle.at_model.specs.Activities.{activity_target, is_begun, told, activity_act, activity_notice, with_context, activity_created, activity_registered, activity_fault, on_activity, activity_state, on_ask, on_complete}
use Rattle.at_model.specs.Due.{Reached, Expired, Over, Unanswered, Nothing, register_again_at, link_again, links_again, seat_again, seats_again, unanswered_seat, transaction_reached, leaf_register_again, leaf_reached, completion_register_again, activity_again, activity_reached}
use Rattle.model_laws.specs.PhaseAnswers.{Accepted as Seating, accepted_as}
use Rattle.model_laws.proofs.DecisionLaws.{DecisionSays, either_says, either_left, all_join, all_if}
use Rattle.model_laws.proofs.OtherEnds.{Anything}

-- what a post says where it is a Register: the participant that it names, and where it goes
abbrev pub Fine : (Epr → Option Epr → Type 0) → Option Epr → Message → Type 0
Fine Q to (messages.Register r) = Q r.participant to
Fine Q to other = Unit {0}

abbrev pub IsFine : (Epr → Option Epr → Type 0) → Post → Type 0
IsFine Q p = Fine Q p.to p.message

abbrev pub AreFine : (Epr → Option Epr → Type 0) → List Post → Type 0
AreFine Q ps = AllByRecursion (IsFine Q) ps

each_fine : {A : Type 0} (Q : Epr → Option Epr → Type 0) (f : A → Post) (xs : List A) → ((x : A) → IsFine Q (f x)) → AreFine Q (map f xs)
each_fine Q f [] h = tt
each_fine Q f (x ∷ xs) h = (h x, each_fine Q f xs h)

pub to_each_fine : (Q : Epr → Option Epr → Type 0) (o : Option Epr) (f : Epr → Post) → ((to : Epr) → IsFine Q (f to)) → AreFine Q (to_each o f)
to_each_fine Q None f h = tt
to_each_fine Q (Some to) f h = (h to, tt)

notices_fine : (Q : Epr → Option Epr → Type 0) (base : List ℕ) (id : Numbers) (n : Notice) (seats : List Enlistment) (test : Enlistment → Bool)
    → AreFine Q (notices_to base id n seats test)
notices_fine Q base id n seats test = each_fine Q (λ s. notice_post base (seat_target id s) s.participant n) (filter test seats) (λ s. tt)

upwards_fine : (Q : Epr → Option Epr → Type 0) (base : List ℕ) (id : Numbers) (kind : Kind) (n : Notice) (link : Link) → AreFine Q (upwards base id kind n link)
upwards_fine Q base id kind n link = to_each_fine Q link.coordinator (λ to. notice_post base (targets.Participant id kind) to n) (λ to. tt)

initiator_fine : (Q : Epr → Option Epr → Type 0) (base : List ℕ) (id : Numbers) (n : Notice) (c : Option Completion) → AreFine Q (initiator_posts base id n c)
initiator_fine Q base id n None = tt
initiator_fine Q base id n (Some c) =
    all_if (IsFine Q) (is_state c.state states.None) [] (notice_post base (targets.Completion id) c.initiator n ∷ []) tt (tt, tt)

link_aborted_fine : (Q : Epr → Option Epr → Type 0) (base : List ℕ) (id : Numbers) (reason : Reason) (kind : Kind) (link : Link)
    → AreFine Q (link_aborted base id reason kind link)
link_aborted_fine Q base id reason kind link =
    all_if (IsFine Q) _ [] (to_each (stored_or link.coordinator (from_of reason kind)) (λ to. notice_post base (targets.Participant id kind) to notices.Aborted)) tt
    (to_each_fine Q (stored_or link.coordinator (from_of reason kind)) (λ to. notice_post base (targets.Participant id kind) to notices.Aborted) (λ to. tt))

links_aborted_fine : (Q : Epr → Option Epr → Type 0) (base : List ℕ) (id : Numbers) (reason : Reason) (s : Option Superior) → AreFine Q (links_aborted base id reason s)
links_aborted_fine Q base id reason None = tt
links_aborted_fine Q base id reason (Some s) =
    all_join (IsFine Q) (link_aborted base id reason kinds.Volatile s.volatile) (link_aborted base id reason kinds.Durable s.durable)
    (link_aborted_fine Q base id reason kinds.Volatile s.volatile) (link_aborted_fine Q base id reason kinds.Durable s.durable)

abbrev pub initiator_endpoint : Completion → Epr
initiator_endpoint c = c.initiator

-- A transaction with this request, these seats but for their states, and this initiator or none.
abbrev pub IsLike : Option Request → List Seating → Option Epr → Transaction → Type 0
IsLike q k z t = (request_of t.superior ≡ q) × (map accepted_as t.seats ≡ k) × (option_map initiator_endpoint t.completion ≡ z)

abbrev pub IsLikeItem : Option Request → List Seating → Option Epr → Option Transaction → Type 0
IsLikeItem q k z None = Unit {0}
IsLikeItem q k z (Some t) = IsLike q k z t

abbrev pub Like : (Epr → Option Epr → Type 0) → Option Request → List Seating → Option Epr → Change Transaction → Type 0
Like Q q k z c = AreFine Q c.posts × IsLikeItem q k z c.item

abbrev LikeMoving : (Epr → Option Epr → Type 0) → Option Request → List Seating → Option Epr → Moving Transaction → Type 0
LikeMoving Q q k z g = AreFine Q g.posts × IsLike q k z g.item

abbrev pub AreLike : (Epr → Option Epr → Type 0) → Option Request → List Seating → Option Epr → Decision Transaction → Type 0
AreLike Q q k z d = DecisionSays (Like Q q k z) Anything d

either : (Q : Epr → Option Epr → Type 0) (q : Option Request) (k : List Seating) (z : Option Epr) (b : Bool) (d e : Decision Transaction) → AreLike Q q k z d → AreLike Q q k z e
    → AreLike Q q k z (if b then d else e)
either Q q k z b d e h i = either_says (Like Q q k z) Anything b d e (λ x. h) (λ x. i)

moved_accepted : (test : Enlistment → Bool) (state : State) (seats : List Enlistment) → map accepted_as (moved test state seats) ≡ map accepted_as seats
moved_accepted test state [] = refl
moved_accepted test state (s ∷ seats) = ap (λ ss. accepted_as s ∷ ss) (moved_accepted test state seats)

completed_initiator : (state : State) (c : Option Completion) → option_map initiator_endpoint (completion_in state c) ≡ option_map initiator_endpoint c
completed_initiator state None = refl
completed_initiator state (Some c) = refl

unlinked : (s : Option Superior) → request_of (without_links s) ≡ request_of s
unlinked None = refl
unlinked (Some s) = refl

set_link_request : (kind : Kind) (link : Link) (s : Superior) → (set_link kind link s).request ≡ s.request
set_link_request kinds.Volatile link s = refl
set_link_request kinds.Durable link s = refl

asked_request : (kind : Kind) (s : Superior) → (asked kind s).request ≡ s.request
asked_request kinds.Volatile s = refl
asked_request kinds.Durable s = refl

posts_like : (Q : Epr → Option Epr → Type 0) (q : Option Request) (k : List Seating) (z : Option Epr) (ps : List Post) (g : Moving Transaction) → LikeMoving Q q k z g → AreFine Q ps
    → LikeMoving Q q k z (posts ps g)
posts_like Q q k z ps g (h, i) j = (all_join (IsFine Q) g.posts ps h j, i)

send_like : (Q : Epr → Option Epr → Type 0) (q : Option Request) (k : List Seating) (z : Option Epr) (m : Moment) (n : Notice) (state : State) (test : Enlistment → Bool) (g : Moving Transaction)
    → LikeMoving Q q k z g → LikeMoving Q q k z (send_each m n state test g)
send_like Q q k z m n state test g (h, (r, l, c)) = (
  all_join (IsFine Q) g.posts (notices_to m.base g.item.id n g.item.seats test) h (notices_fine Q m.base g.item.id n g.item.seats test),
  (r, moved_accepted test state g.item.seats ∙ l, c),
)

rolled_back : (Q : Epr → Option Epr → Type 0) (q : Option Request) (k : List Seating) (z : Option Epr) (g : Moving Transaction) → LikeMoving Q q k z g → Like Q q k z (until_rolled_back g)
rolled_back Q q k z g h = either_left (Like Q q k z) (list_any (in_state states.Aborting) g.item.seats) (stays g) (forgotten g) h (h.0, tt)

abort_like : (Q : Epr → Option Epr → Type 0) (q : Option Request) (k : List Seating) (z : Option Epr) (m : Moment) (reason : Reason) (g : Moving Transaction) → LikeMoving Q q k z g
    → Like Q q k z (abort m reason g)
unfolding abort
abort_like Q q k z m reason g (h, (r, l, c)) =
    let g2 : Moving Transaction = posts (links_aborted m.base g.item.id reason g.item.superior) (effect (ending g.item endings.Aborted) g) in
    let g3 : Moving Transaction =
    become (record g.item {
      superior = without_links g.item.superior;
      phase = Phase.Aborting;
      aborted = Some m.now;
      completion = completion_in states.None g.item.completion;
    }) g2 in
    let g4 : Moving Transaction = send_each m notices.Rollback states.Aborting is_open g3 in
    rolled_back Q q k z (posts (initiator_posts m.base g.item.id notices.Aborted g.item.completion) g4)
    (posts_like Q q k z (initiator_posts m.base g.item.id notices.Aborted g.item.completion) g4
    (send_like Q q k z m notices.Rollback states.Aborting is_open g3 (
      all_join (IsFine Q) g.posts (links_aborted m.base g.item.id reason g.item.superior) h (links_aborted_fine Q m.base g.item.id reason g.item.superior),
      (unlinked g.item.superior ∙ r, l, completed_initiator states.None g.item.completion ∙ c),
    ))
    (initiator_fine Q m.base g.item.id notices.Aborted g.item.completion))

commit_like : (Q : Epr → Option Epr → Type 0) (q : Option Request) (k : List Seating) (z : Option Epr) (m : Moment) (g : Moving Transaction) → LikeMoving Q q k z g
    → LikeMoving Q q k z (commit_seats m g)
commit_like Q q k z m g h = send_like Q q k z m notices.Commit states.Committing (in_state states.Prepared) g h

decided_like : (Q : Epr → Option Epr → Type 0) (q : Option Request) (k : List Seating) (z : Option Epr) (m : Moment) (g : Moving Transaction) → LikeMoving Q q k z g → LikeMoving Q q k z (decided m g)
unfolding decided
decided_like Q q k z m g (h, i) =
    let (ps, (r, l, c)) = commit_like Q q k z m g (h, i) in
    let g2 : Moving Transaction = commit_seats m (effect (ending g.item endings.Committed) g) in (
      all_join (IsFine Q) g2.posts (initiator_posts m.base g.item.id notices.Committed g.item.completion) ps (initiator_fine Q m.base g.item.id notices.Committed g.item.completion),
      (r, l, completed_initiator states.Done g.item.completion ∙ c),
    )

committed_like : (Q : Epr → Option Epr → Type 0) (q : Option Request) (k : List Seating) (z : Option Epr) (m : Moment) (g : Moving Transaction) → LikeMoving Q q k z g → Like Q q k z (committed m g)
unfolding committed
committed_like Q q k z m g h =
    either_left (Like Q q k z) (list_any is_prepared_durable g.item.seats) (stays (decided m g)) (forgotten (decided m g))
    (decided_like Q q k z m g h) ((decided_like Q q k z m g h).0, tt)

root_like : (Q : Epr → Option Epr → Type 0) (q : Option Request) (k : List Seating) (z : Option Epr) (m : Moment) (g : Moving Transaction) → LikeMoving Q q k z g → AreLike Q q k z (root_answered m g)
unfolding root_answered
root_like Q q k z m g h = record { entry = tt; landed = committed_like Q q k z m g h; otherwise = abort_like Q q k z m Alone g h }

voted_like : (Q : Epr → Option Epr → Type 0) (q : Option Request) (k : List Seating) (z : Option Epr) (m : Moment) (s : Superior) (g : Moving Transaction) → s.request ≡ q → LikeMoving Q q k z g
    → LikeMoving Q q k z (voted m s g)
unfolding voted
voted_like Q q k z m s g e (h, (r, l, c)) =
    (all_join (IsFine Q) g.posts (upwards m.base g.item.id kinds.Durable notices.Prepared s.durable) h (upwards_fine Q m.base g.item.id kinds.Durable notices.Prepared s.durable), (e, l, c))

sub_like : (Q : Epr → Option Epr → Type 0) (q : Option Request) (k : List Seating) (z : Option Epr) (m : Moment) (s : Superior) (superior : Option Epr) (g : Moving Transaction) → s.request ≡ q
    → LikeMoving Q q k z g → AreLike Q q k z (sub_answered m s superior g)
unfolding sub_answered
sub_like Q q k z m s None g e h = abort_like Q q k z m Alone g h
sub_like Q q k z m s (Some superior) g e h =
    either Q q k z (list_any is_prepared_durable g.item.seats)
    (Records (records.Voted g.item.id superior (prepared g.item.seats)) (stays (voted m s g)) (Some (abort m Alone g)))
    (Goes (forgotten (posts (upwards m.base g.item.id kinds.Durable notices.ReadOnly s.durable) g)))
    (record { entry = tt; landed = voted_like Q q k z m s g e h; otherwise = abort_like Q q k z m Alone g h })
    (all_join (IsFine Q) g.posts (upwards m.base g.item.id kinds.Durable notices.ReadOnly s.durable) h.0 (upwards_fine Q m.base g.item.id kinds.Durable notices.ReadOnly s.durable), tt)

durable_like : (Q : Epr → Option Epr → Type 0) (q : Option Request) (k : List Seating) (z : Option Epr) (m : Moment) (s : Option Superior) (g : Moving Transaction) → request_of s ≡ q
    → LikeMoving Q q k z g → AreLike Q q k z (durable_answered m s g)
durable_like Q q k z m None g e h = root_like Q q k z m g h
durable_like Q q k z m (Some s) g e h = sub_like Q q k z m s s.durable.coordinator g e h

if_durable_like : (Q : Epr → Option Epr → Type 0) (q : Option Request) (k : List Seating) (z : Option Epr) (m : Moment) (g : Moving Transaction) → LikeMoving Q q k z g
    → AreLike Q q k z (if_durable_answered m g)
if_durable_like Q q k z m g h =
    either Q q k z (answered kinds.Durable g.item.seats) (durable_answered m g.item.superior g) (Goes (stays g)) (durable_like Q q k z m g.item.superior g h.1.0 h) h

go_durable_like : (Q : Epr → Option Epr → Type 0) (q : Option Request) (k : List Seating) (z : Option Epr) (m : Moment) (g : Moving Transaction) → LikeMoving Q q k z g
    → AreLike Q q k z (go_durable m g)
unfolding go_durable
go_durable_like Q q k z m g h =
    if_durable_like Q q k z m (prepare_seats m kinds.Durable (become (in_phase Phase.Durable g.item) g))
    (send_like Q q k z m notices.Prepare states.Preparing (is_of kinds.Durable states.Active) (become (in_phase Phase.Durable g.item) g) h)

volatile_like : (Q : Epr → Option Epr → Type 0) (q : Option Request) (k : List Seating) (z : Option Epr) (m : Moment) (s : Option Superior) (g : Moving Transaction) → request_of s ≡ q
    → LikeMoving Q q k z g → AreLike Q q k z (volatile_answered m s g)
unfolding volatile_answered
volatile_like Q q k z m None g e h = go_durable_like Q q k z m g h
volatile_like Q q k z m (Some s) g e (h, (r, l, c)) =
    either Q q k z (is_state s.volatile.state states.Preparing)
    (Goes (stays
    (posts (upwards m.base g.item.id kinds.Volatile notices.ReadOnly s.volatile)
    (become (record g.item { superior = Some (link_in kinds.Volatile states.None s); phase = Phase.Active }) g))))
    (if is_state s.durable.state states.Preparing then go_durable m g else Goes (stays g))
    (all_join (IsFine Q) g.posts (upwards m.base g.item.id kinds.Volatile notices.ReadOnly s.volatile) h (upwards_fine Q m.base g.item.id kinds.Volatile notices.ReadOnly s.volatile), (e, l, c))
    (either Q q k z (is_state s.durable.state states.Preparing) (go_durable m g) (Goes (stays g)) (go_durable_like Q q k z m g (h, (r, l, c))) (h, (r, l, c)))

ended_fine : (Q : Epr → Option Epr → Type 0) (base : List ℕ) (id : Numbers) (s : Option Superior) → AreFine Q (ended_posts base id s)
ended_fine Q base id None = tt
ended_fine Q base id (Some s) = upwards_fine Q base id kinds.Durable notices.Committed s.durable

all_committed_like : (Q : Epr → Option Epr → Type 0) (q : Option Request) (k : List Seating) (z : Option Epr) (m : Moment) (g : Moving Transaction) → LikeMoving Q q k z g
    → AreLike Q q k z (all_committed m g)
unfolding all_committed
all_committed_like Q q k z m g h = record {
  entry = tt;
  landed = (all_join (IsFine Q) g.posts (ended_posts m.base g.item.id g.item.superior) h.0 (ended_fine Q m.base g.item.id g.item.superior), tt);
  otherwise = tt;
}

advance_like : (Q : Epr → Option Epr → Type 0) (q : Option Request) (k : List Seating) (z : Option Epr) (m : Moment) (phase : Phase) (g : Moving Transaction) → LikeMoving Q q k z g
    → AreLike Q q k z (advance_in m phase g)
unfolding advance_in
advance_like Q q k z m Phase.Registering g h = h
advance_like Q q k z m Phase.Active g h = h
advance_like Q q k z m Phase.Volatile g h =
    either Q q k z (answered kinds.Volatile g.item.seats) (volatile_answered m g.item.superior g) (Goes (stays g)) (volatile_like Q q k z m g.item.superior g h.1.0 h) h
advance_like Q q k z m Phase.Durable g h = if_durable_like Q q k z m g h
advance_like Q q k z m Phase.Voted g h = h
advance_like Q q k z m Phase.Committing g h =
    either Q q k z (all_left g.item.seats) (all_committed m g) (Goes (stays g)) (all_committed_like Q q k z m g h) h
advance_like Q q k z m Phase.Aborting g h = rolled_back Q q k z g h

go_volatile_like : (Q : Epr → Option Epr → Type 0) (q : Option Request) (k : List Seating) (z : Option Epr) (m : Moment) (g : Moving Transaction) → LikeMoving Q q k z g
    → AreLike Q q k z (go_volatile m g)
unfolding go_volatile
go_volatile_like Q q k z m g h =
    advance_like Q q k z m Phase.Volatile (prepare_seats m kinds.Volatile (become (in_phase Phase.Volatile g.item) g))
    (send_like Q q k z m notices.Prepare states.Preparing (is_of kinds.Volatile states.Active) (become (in_phase Phase.Volatile g.item) g) h)

commit_voted_like : (Q : Epr → Option Epr → Type 0) (q : Option Request) (k : List Seating) (z : Option Epr) (m : Moment) (s : Superior) (t : Transaction) → s.request ≡ q → IsLike q k z t
    → AreLike Q q k z (commit_voted m s t)
unfolding commit_voted
commit_voted_like Q q k z m s t e (r, l, c) = record {
  entry = tt;
  landed = commit_like Q q k z m
      (become (record t { superior = Some (link_in kinds.Durable states.Committing s); phase = Phase.Committing }) (effect (ending t endings.Committed) (begin t))) (tt, (e, l, c));
  otherwise = tt;
}

seat_in_like : (q : Option Request) (k : List Seating) (z : Option Epr) (number : ℕ) (state : State) (t : Transaction) → IsLike q k z t → IsLike q k z (seat_in number state t)
seat_in_like q k z number state t (r, l, c) = (r, moved_accepted _ state t.seats ∙ l, c)

seat_act_like : (Q : Epr → Option Epr → Type 0) (q : Option Request) (k : List Seating) (z : Option Epr) (m : Moment) (i : Option (List ℕ)) (t : Transaction) (s : Enlistment) (act : Act)
    → IsLike q k z t → AreLike Q q k z (seat_act m i t s act)
unfolding seat_act
seat_act_like Q q k z m i t s acts.Ignore h = (tt, h)
seat_act_like Q q k z m i t s acts.SendPrepared h = (tt, h)
seat_act_like Q q k z m i t s acts.SendCommit h = ((tt, tt), h)
seat_act_like Q q k z m i t s acts.SendRollback h =
    either Q q k z (in_state states.None s) (answer_left_seat m notices.Rollback t s) (answer_seat m notices.Rollback t s) ((tt, tt), h) ((tt, tt), h)
seat_act_like Q q k z m i t s acts.SendCommitted h = (tt, h)
seat_act_like Q q k z m i t s acts.SendAborted h = (tt, h)
seat_act_like Q q k z m i t s acts.FaultUnknownTransaction h = ((tt, tt), h)
seat_act_like Q q k z m i t s acts.FaultInvalidState h = ((tt, tt), h)
seat_act_like Q q k z m i t s acts.FaultInvalidStateAndAbort h =
    abort_like Q q k z m Alone (post (fault_post (Some s.participant) i InvalidState) (begin t)) ((tt, tt), h)
seat_act_like Q q k z m i t s acts.Leave h =
    advance_like Q q k z m (seat_in s.number states.None t).phase (begin (seat_in s.number states.None t)) (tt, seat_in_like q k z s.number states.None t h)
seat_act_like Q q k z m i t s acts.LeaveAndAbort h =
    abort_like Q q k z m Alone (begin (seat_in s.number states.None t)) (tt, seat_in_like q k z s.number states.None t h)
seat_act_like Q q k z m i t s acts.Vote h =
    advance_like Q q k z m (seat_in s.number states.Prepared t).phase (begin (seat_in s.number states.Prepared t)) (tt, seat_in_like q k z s.number states.Prepared t h)
seat_act_like Q q k z m i t s acts.Gather h = (tt, h)
seat_act_like Q q k z m i t s acts.Commit h = (tt, h)
seat_act_like Q q k z m i t s acts.AbortAndSendAborted h = (tt, h)
seat_act_like Q q k z m i t s acts.RecordAndSendAborted h = (tt, h)
seat_act_like Q q k z m i t s acts.Complete h = (tt, h)
seat_act_like Q q k z m i t s acts.TellCommitted h = (tt, h)
seat_act_like Q q k z m i t s acts.TellAborted h = (tt, h)

seat_notice_like : (Q : Epr → Option Epr → Type 0) (q : Option Request) (k : List Seating) (z : Option Epr) (m : Moment) (i : Option (List ℕ)) (t : Transaction) (s : Enlistment) (c : Option Cell)
    → IsLike q k z t → AreLike Q q k z (seat_notice m i t s c)
unfolding seat_notice
seat_notice_like Q q k z m i t s None h = (tt, h)
seat_notice_like Q q k z m i t s (Some c) h = seat_act_like Q q k z m i t s c.act h

pub seat_like : (Q : Epr → Option Epr → Type 0) (q : Option Request) (k : List Seating) (z : Option Epr) (m : Moment) (a : Arrived) (t : Transaction) (s : Enlistment) (x : Message)
    → IsLike q k z t → AreLike Q q k z (on_seat m a t s x)
unfolding on_seat
seat_like Q q k z m a t s (messages.Notice n) h = seat_notice_like Q q k z m a.id t s (coordinator_of s.kind s.state n) h
seat_like Q q k z m a t s other h = (tt, h)

link_act_like : (Q : Epr → Option Epr → Type 0) (q : Option Request) (k : List Seating) (z : Option Epr) (m : Moment) (from : Option Epr) (i : Option (List ℕ)) (kind : Kind) (s : Superior)
    (t : Transaction) (act : Act) → s.request ≡ q → IsLike q k z t → AreLike Q q k z (link_act m from i kind s t act)
unfolding link_act
link_act_like Q q k z m from i kind s t acts.Ignore e h = (tt, h)
link_act_like Q q k z m from i kind s t acts.SendPrepared e h = (upwards_fine Q m.base t.id kind notices.Prepared (link_of kind s), h)
link_act_like Q q k z m from i kind s t acts.SendCommit e h = (tt, h)
link_act_like Q q k z m from i kind s t acts.SendRollback e h = (tt, h)
link_act_like Q q k z m from i kind s t acts.SendCommitted e h =
    (to_each_fine Q (stored_or (link_of kind s).coordinator from) (λ to. stranger_post m.base (targets.Participant t.id kind) to notices.Committed) (λ to. tt), h)
link_act_like Q q k z m from i kind s t acts.SendAborted e h =
    (to_each_fine Q (stored_or (link_of kind s).coordinator from) (λ to. stranger_post m.base (targets.Participant t.id kind) to notices.Aborted) (λ to. tt), h)
link_act_like Q q k z m from i kind s t acts.FaultUnknownTransaction e h = (tt, h)
link_act_like Q q k z m from i kind s t acts.FaultInvalidState e h =
    (to_each_fine Q (stored_or (link_of kind s).coordinator from) (λ to. fault_post (Some to) i InvalidState) (λ to. tt), h)
link_act_like Q q k z m from i kind s t acts.FaultInvalidStateAndAbort e h =
    abort_like Q q k z m (Faulted kind) (posts (to_each (stored_or (link_of kind s).coordinator from) (λ to. fault_post (Some to) i InvalidState)) (begin t))
    (to_each_fine Q (stored_or (link_of kind s).coordinator from) (λ to. fault_post (Some to) i InvalidState) (λ to. tt), h)
link_act_like Q q k z m from i kind s t acts.Leave e h = (tt, h)
link_act_like Q q k z m from i kind s t acts.LeaveAndAbort e h = (tt, h)
link_act_like Q q k z m from i kind s t acts.Vote e h = (tt, h)
link_act_like Q q k z m from i kind s t acts.Gather e (r, l, c) =
    go_volatile_like Q q k z m (begin (under (asked kind s) t)) (tt, (asked_request kind s ∙ e, l, c))
link_act_like Q q k z m from i kind s t acts.Commit e h = commit_voted_like Q q k z m s t e h
link_act_like Q q k z m from i kind s t acts.AbortAndSendAborted e h = abort_like Q q k z m (Asked kind from) (begin t) (tt, h)
link_act_like Q q k z m from i kind s t acts.RecordAndSendAborted e h =
    record { entry = tt; landed = abort_like Q q k z m (Asked kind from) (begin t) (tt, h); otherwise = tt }
link_act_like Q q k z m from i kind s t acts.Complete e h = (tt, h)
link_act_like Q q k z m from i kind s t acts.TellCommitted e h = (tt, h)
link_act_like Q q k z m from i kind s t acts.TellAborted e h = (tt, h)

link_notice_like : (Q : Epr → Option Epr → Type 0) (q : Option Request) (k : List Seating) (z : Option Epr) (m : Moment) (from : Option Epr) (i : Option (List ℕ)) (kind : Kind) (s : Superior)
    (t : Transaction) (c : Option Cell) → s.request ≡ q → IsLike q k z t → AreLike Q q k z (link_notice m from i kind s t c)
unfolding link_notice
link_notice_like Q q k z m from i kind s t None e h = (tt, h)
link_notice_like Q q k z m from i kind s t (Some c) e h = link_act_like Q q k z m from i kind s t c.act e h

link_registered_like : (Q : Epr → Option Epr → Type 0) (q : Option Request) (k : List Seating) (z : Option Epr) (m : Moment) (relates : Option (List ℕ)) (coordinator : Epr) (kind : Kind)
    (s : Superior) (t : Transaction) → s.request ≡ q → IsLike q k z t → AreLike Q q k z (link_registered m relates coordinator kind s t)
unfolding link_registered
link_registered_like Q q k z m relates coordinator kind s t e (r, l, c) =
    let after : Superior = set_link kind (record { state = states.Active; coordinator = Some coordinator }) s in
    either Q q k z _ (Goes (stays (begin (record t { superior = Some after; phase = registered after t.phase })))) (ignored t)
    (tt, (set_link_request kind (record { state = states.Active; coordinator = Some coordinator }) s ∙ e, l, c)) (tt, (r, l, c))

link_fault_like : (Q : Epr → Option Epr → Type 0) (q : Option Request) (k : List Seating) (z : Option Epr) (m : Moment) (relates : Option (List ℕ)) (kind : Kind) (s : Superior) (t : Transaction)
    → IsLike q k z t → AreLike Q q k z (link_fault m relates kind s t)
unfolding link_fault
link_fault_like Q q k z m relates kind s t h =
    either Q q k z _ (Goes (abort m Alone (begin t))) (ignored t) (abort_like Q q k z m Alone (begin t) (tt, h)) (tt, h)

pub link_like : (Q : Epr → Option Epr → Type 0) (q : Option Request) (k : List Seating) (z : Option Epr) (m : Moment) (a : Arrived) (kind : Kind) (t : Transaction) (s : Superior) (x : Message)
    → s.request ≡ q → IsLike q k z t → AreLike Q q k z (on_link m a kind t s x)
unfolding on_link
link_like Q q k z m a kind t s (messages.Notice n) e h = link_notice_like Q q k z m a.from a.id kind s t (participant_of kind (link_of kind s).state n) e h
link_like Q q k z m a kind t s (messages.RegisterResponse coordinator) e h = link_registered_like Q q k z m a.relates coordinator kind s t e h
link_like Q q k z m a kind t s (messages.Fault name) e h = link_fault_like Q q k z m a.relates kind s t h
link_like Q q k z m a kind t s other e h = (tt, h)

completion_act_like : (Q : Epr → Option Epr → Type 0) (q : Option Request) (k : List Seating) (z : Option Epr) (m : Moment) (from : Option Epr) (i : Option (List ℕ)) (c : Completion) (t : Transaction) (act : Act)
    → Some c.initiator ≡ z → IsLike q k z t → AreLike Q q k z (completion_act m from i c t act)
unfolding completion_act
completion_act_like Q q k z m from i c t acts.SendCommitted e h =
    (to_each_fine Q from (λ to. notice_post m.base (targets.Completion t.id) to notices.Committed) (λ to. tt), h)
completion_act_like Q q k z m from i c t acts.FaultUnknownTransaction e h = ((tt, tt), h)
completion_act_like Q q k z m from i c t acts.FaultInvalidState e h = ((tt, tt), h)
completion_act_like Q q k z m from i c t acts.Complete e (r, l, n) =
    go_volatile_like Q q k z m (begin (record t { completion = Some (record c { state = states.Completing }) })) (tt, (r, l, e))
completion_act_like Q q k z m from i c t acts.AbortAndSendAborted e h = abort_like Q q k z m Alone (begin t) (tt, h)
completion_act_like Q q k z m from i c t other e h = (tt, h)

completion_notice_like : (Q : Epr → Option Epr → Type 0) (q : Option Request) (k : List Seating) (z : Option Epr) (m : Moment) (from : Option Epr) (i : Option (List ℕ)) (c : Completion) (t : Transaction)
    (cell : Option Cell) → Some c.initiator ≡ z → IsLike q k z t → AreLike Q q k z (completion_notice m from i c t cell)
unfolding completion_notice
completion_notice_like Q q k z m from i c t None e h = (tt, h)
completion_notice_like Q q k z m from i c t (Some cell) e h = completion_act_like Q q k z m from i c t cell.act e h

pub completion_like : (Q : Epr → Option Epr → Type 0) (q : Option Request) (k : List Seating) (z : Option Epr) (m : Moment) (a : Arrived) (t : Transaction) (c : Completion) (x : Message)
    → Some c.initiator ≡ z → IsLike q k z t → AreLike Q q k z (on_completion m a t c x)
unfolding on_completion
completion_like Q q k z m a t c (messages.Notice n) e h = completion_notice_like Q q k z m a.from a.id c t (completion_of c.state n) e h
completion_like Q q k z m a t c other e h = (tt, h)

-- what is sent again
abbrev pub IsOwn : (Epr → Option Epr → Type 0) → List ℕ → Numbers → Option Request → Type 0
IsOwn Q base id q = (kind : Kind) (r : Request) → q ≡ Some r → Q (endpoint_of base (targets.Participant id kind)) (Some r.registration)

register_again_fine : (Q : Epr → Option Epr → Type 0) (base : List ℕ) (id : Numbers) (kind : Kind) (r q : Option Request) → r ≡ q → IsOwn Q base id q
    → AreFine Q (register_again_at base id kind r)
register_again_fine Q base id kind None q e own = tt
register_again_fine Q base id kind (Some r) q e own = (own kind r (sym e), tt)

link_again_fine : (Q : Epr → Option Epr → Type 0) (base : List ℕ) (id : Numbers) (kind : Kind) (r q : Option Request) (link : Link) → r ≡ q → IsOwn Q base id q
    → AreFine Q (link_again base id kind r link)
link_again_fine Q base id kind r q link e own =
    all_if (IsFine Q) (is_state link.state states.Registering) (register_again_at base id kind r)
    (if is_state link.state states.PreparedSuccess then upwards base id kind notices.Prepared link else []) (register_again_fine Q base id kind r q e own)
    (all_if (IsFine Q) (is_state link.state states.PreparedSuccess) (upwards base id kind notices.Prepared link) [] (upwards_fine Q base id kind notices.Prepared link) tt)

links_again_fine : (Q : Epr → Option Epr → Type 0) (base : List ℕ) (id : Numbers) (s : Option Superior) (q : Option Request) → request_of s ≡ q → IsOwn Q base id q
    → AreFine Q (links_again base id s)
links_again_fine Q base id None q e own = tt
links_again_fine Q base id (Some s) q e own =
    all_join (IsFine Q) (link_again base id kinds.Volatile s.request s.volatile) (link_again base id kinds.Durable s.request s.durable)
    (link_again_fine Q base id kinds.Volatile s.request q s.volatile e own) (link_again_fine Q base id kinds.Durable s.request q s.durable e own)

seat_again_fine : (Q : Epr → Option Epr → Type 0) (base : List ℕ) (id : Numbers) (s : Enlistment) (n : Option Notice) → AreFine Q (seat_again base id s n)
seat_again_fine Q base id s None = tt
seat_again_fine Q base id s (Some n) = (tt, tt)

seats_again_fine : (Q : Epr → Option Epr → Type 0) (base : List ℕ) (id : Numbers) (ss : List Enlistment) → AreFine Q (seats_again base id ss)
seats_again_fine Q base id [] = tt
seats_again_fine Q base id (s ∷ ss) =
    all_join (IsFine Q) (seat_again base id s (unanswered_seat s.state)) (seats_again base id ss) (seat_again_fine Q base id s (unanswered_seat s.state)) (seats_again_fine Q base id ss)

pub due_like : (Q : Epr → Option Epr → Type 0) (q : Option Request) (k : List Seating) (z : Option Epr) (m : Moment) (t : Transaction) (reached : Reached) → IsOwn Q m.base t.id q → IsLike q k z t
    → AreLike Q q k z (transaction_reached m t reached)
unfolding transaction_reached
due_like Q q k z m t Expired own h = abort_like Q q k z m Alone (begin t) (tt, h)
due_like Q q k z m t Over own h = (tt, tt)
due_like Q q k z m t Unanswered own h = (
  all_join (IsFine Q) (links_again m.base t.id t.superior) (seats_again m.base t.id t.seats) (links_again_fine Q m.base t.id t.superior q h.0 own)
      (seats_again_fine Q m.base t.id t.seats),
  h,
)
due_like Q q k z m t Nothing own h = (tt, h)

-- with its answer a transaction keeps its request, or has none any more
abbrev pub IsLeft : Option Request → List Seating → Option Epr → Option Transaction → Type 0
IsLeft q k z None = Unit {0}
IsLeft q k z (Some t) = ((request_of t.superior ≡ q) ⊎ (request_of t.superior ≡ None)) × (map accepted_as t.seats ≡ k) × (option_map initiator_endpoint t.completion ≡ z)

abbrev pub LeftSays : (Epr → Option Epr → Type 0) → Option Request → List Seating → Option Epr → Change Transaction → Type 0
LeftSays Q q k z c = AreFine Q c.posts × IsLeft q k z c.item

like_left : (q : Option Request) (k : List Seating) (z : Option Epr) (t : Option Transaction) → IsLikeItem q k z t → IsLeft q k z t
like_left q k z None h = tt
like_left q k z (Some t) (r, l, c) = (inl r, l, c)

refused_fine : (Q : Epr → Option Epr → Type 0) (r : Reply) (id : Option (List ℕ)) → AreFine Q (refused_at r id)
refused_fine Q replies.Anonymous id = tt
refused_fine Q replies.Nobody id = tt
refused_fine Q (replies.At to) id = (tt, tt)

stands_left : (Q : Epr → Option Epr → Type 0) (q : Option Request) (k : List Seating) (z : Option Epr) (m : Moment) (r : Request) (t : Transaction) (s : Superior) (phase : Phase) (c : Change Transaction)
    → IsLike q k z t → AreFine Q c.posts → IsLikeItem q k z c.item → LeftSays Q q k z (request_stands m r t s phase c)
stands_left Q q k z m r t s Phase.Aborting c (rq, l, n) ps h = (all_join (IsFine Q) c.posts (refused_request r) ps (refused_fine Q r.fault r.id), (inr refl, l, n))
stands_left Q q k z m r t s other c (rq, l, n) ps h =
    either_left (LeftSays Q q k z) (is_registering s) c
    (record {
      item = Some (under (request_answered s) t);
      posts = c.posts ++ reply_post (Some r.reply) r.id (messages.CreateResponse (context_of m.base t r.expires)) ∷ [];
      effects = c.effects;
    }) (ps, like_left q k z c.item h) (all_join (IsFine Q) c.posts _ ps (tt, tt), (inr refl, l, n))

under_left : (Q : Epr → Option Epr → Type 0) (q : Option Request) (k : List Seating) (z : Option Epr) (m : Moment) (r : Request) (t : Transaction) (s : Option Superior) (c : Change Transaction)
    → IsLike q k z t → AreFine Q c.posts → IsLikeItem q k z c.item → LeftSays Q q k z (request_under m r t s c)
under_left Q q k z m r t None c l ps h = (ps, like_left q k z c.item h)
under_left Q q k z m r t (Some s) c l ps h = stands_left Q q k z m r t s t.phase c l ps h

request_left_says : (Q : Epr → Option Epr → Type 0) (q : Option Request) (k : List Seating) (z : Option Epr) (m : Moment) (r : Request) (t : Option Transaction) (c : Change Transaction)
    → IsLikeItem q k z t → AreFine Q c.posts → IsLikeItem q k z c.item → LeftSays Q q k z (request_left m r t c)
request_left_says Q q k z m r None c l ps h = (all_join (IsFine Q) c.posts (refused_request r) ps (refused_fine Q r.fault r.id), tt)
request_left_says Q q k z m r (Some t) c l ps h = under_left Q q k z m r t t.superior c l ps h

answer_left : (Q : Epr → Option Epr → Type 0) (q : Option Request) (k : List Seating) (z : Option Epr) (m : Moment) (r : Option Request) (c : Change Transaction) → Like Q q k z c
    → LeftSays Q q k z (answer_request m r c)
answer_left Q q k z m None c (ps, h) = (ps, like_left q k z c.item h)
answer_left Q q k z m (Some r) c (ps, h) = request_left_says Q q k z m r c.item c h ps h

pub with_answer_left : (Q : Epr → Option Epr → Type 0) (q : Option Request) (k : List Seating) (z : Option Epr) (m : Moment) (t : Transaction) (d : Decision Transaction) → AreLike Q q k z d
    → DecisionSays (LeftSays Q q k z) Anything (with_answer m t d)
with_answer_left Q q k z m t (Goes c) h = answer_left Q q k z m (request_of t.superior) c h
with_answer_left Q q k z m t (Records r c None) h = record { entry = tt; landed = answer_left Q q k z m (request_of t.superior) c h.landed; otherwise = tt }
with_answer_left Q q k z m t (Records r c (Some d)) h =
    record { entry = tt; landed = answer_left Q q k z m (request_of t.superior) c h.landed; otherwise = answer_left Q q k z m (request_of t.superior) d h.otherwise }

-- A leaf that keeps this request, or has none any more.
abbrev pub IsLeafLike : Option WorkRequest → Option Leaf → Type 0
IsLeafLike q None = Unit {0}
IsLeafLike q (Some l) = (l.request ≡ q) ⊎ (l.request ≡ None)

abbrev pub LeafLike : (Epr → Option Epr → Type 0) → Option WorkRequest → Change Leaf → Type 0
LeafLike Q q c = AreFine Q c.posts × IsLeafLike q c.item

abbrev pub AreLeafLike : (Epr → Option Epr → Type 0) → Option WorkRequest → Decision Leaf → Type 0
AreLeafLike Q q d = DecisionSays (LeafLike Q q) Anything d

either_leaf : (Q : Epr → Option Epr → Type 0) (q : Option WorkRequest) (b : Bool) (d e : Decision Leaf) → AreLeafLike Q q d → AreLeafLike Q q e
    → AreLeafLike Q q (if b then d else e)
either_leaf Q q b d e h i = either_says (LeafLike Q q) Anything b d e (λ x. h) (λ x. i)

says_fine : (Q : Epr → Option Epr → Type 0) (m : Moment) (from : Option Epr) (n : Notice) (l : Leaf) → AreFine Q (leaf_says m from n l)
says_fine Q m from n l = to_each_fine Q (stored_or l.coordinator from) (λ to. notice_post m.base (leaf_target l) to n) (λ to. tt)

faults_fine : (Q : Epr → Option Epr → Type 0) (from : Option Epr) (i : Option (List ℕ)) (l : Leaf) → AreFine Q (leaf_faults from i l)
faults_fine Q from i l = to_each_fine Q (stored_or l.coordinator from) (λ to. fault_post (Some to) i InvalidState) (λ to. tt)

work_done_fine : (Q : Epr → Option Epr → Type 0) (r : Option WorkRequest) → AreFine Q (work_answer messages.WorkDone r)
work_done_fine Q None = tt
work_done_fine Q (Some r) = (tt, tt)

work_refused_fine : (Q : Epr → Option Epr → Type 0) (r : Option WorkRequest) → AreFine Q (work_answer messages.WorkRefused r)
work_refused_fine Q None = tt
work_refused_fine Q (Some r) = (tt, tt)

prepares_like : (Q : Epr → Option Epr → Type 0) (m : Moment) (l : Leaf) → LeafLike Q l.request (leaf_prepares m l)
prepares_like Q m l = (says_fine Q m None notices.Prepared l, inl refl)

aborts_like : (Q : Epr → Option Epr → Type 0) (q : Option WorkRequest) (m : Moment) (from : Option Epr) (l : Leaf) → LeafLike Q q (leaf_aborts m from l)
aborts_like Q q m from l = (says_fine Q m from notices.Aborted l, tt)

commits_like : (Q : Epr → Option Epr → Type 0) (q : Option WorkRequest) (m : Moment) (from : Option Epr) (l : Leaf) → LeafLike Q q (leaf_commits m from l)
commits_like Q q m from l = (says_fine Q m from notices.Committed l, tt)

records_vote_like : (Q : Epr → Option Epr → Type 0) (m : Moment) (coordinator : Option Epr) (l : Leaf) → AreLeafLike Q l.request (leaf_records_vote m coordinator l)
records_vote_like Q m None l = aborts_like Q l.request m None l
records_vote_like Q m (Some coordinator) l = record { entry = tt; landed = prepares_like Q m l; otherwise = aborts_like Q l.request m None l }

votes_like : (Q : Epr → Option Epr → Type 0) (m : Moment) (from : Option Epr) (l : Leaf) (kind : Kind) (vote : Vote) → AreLeafLike Q l.request (leaf_votes m from l kind vote)
unfolding leaf_votes
votes_like Q m from l kinds.Durable votes.Prepared = records_vote_like Q m l.coordinator l
votes_like Q m from l kinds.Volatile votes.Prepared = prepares_like Q m l
votes_like Q m from l kind votes.ReadOnly = (says_fine Q m from notices.ReadOnly l, tt)
votes_like Q m from l kind votes.Aborted = aborts_like Q l.request m from l

leaf_commit_like : (Q : Epr → Option Epr → Type 0) (q : Option WorkRequest) (m : Moment) (from : Option Epr) (l : Leaf) (kind : Kind) → AreLeafLike Q q (leaf_commit m from l kind)
unfolding leaf_commit
leaf_commit_like Q q m from l kinds.Durable = record { entry = tt; landed = commits_like Q q m from l; otherwise = tt }
leaf_commit_like Q q m from l kinds.Volatile = commits_like Q q m from l

leaf_roll_back_like : (Q : Epr → Option Epr → Type 0) (q : Option WorkRequest) (m : Moment) (from : Option Epr) (l : Leaf) (kind : Kind)
    → AreLeafLike Q q (leaf_roll_back m from l kind)
unfolding leaf_roll_back
leaf_roll_back_like Q q m from l kinds.Durable = record { entry = tt; landed = aborts_like Q q m from l; otherwise = tt }
leaf_roll_back_like Q q m from l kinds.Volatile = aborts_like Q q m from l

leaf_act_like : (Q : Epr → Option Epr → Type 0) (m : Moment) (from : Option Epr) (i : Option (List ℕ)) (l : Leaf) (act : Act) → AreLeafLike Q l.request (leaf_act m from i l act)
unfolding leaf_act
leaf_act_like Q m from i l acts.Gather = votes_like Q m from l l.kind l.vote
leaf_act_like Q m from i l acts.SendPrepared = (says_fine Q m from notices.Prepared l, inl refl)
leaf_act_like Q m from i l acts.Commit = leaf_commit_like Q l.request m from l l.kind
leaf_act_like Q m from i l acts.AbortAndSendAborted = aborts_like Q l.request m from l
leaf_act_like Q m from i l acts.RecordAndSendAborted = leaf_roll_back_like Q l.request m from l l.kind
leaf_act_like Q m from i l acts.FaultInvalidState = (faults_fine Q from i l, inl refl)
leaf_act_like Q m from i l acts.FaultInvalidStateAndAbort = (faults_fine Q from i l, tt)
leaf_act_like Q m from i l other = (tt, inl refl)

leaf_notice_like : (Q : Epr → Option Epr → Type 0) (m : Moment) (from : Option Epr) (i : Option (List ℕ)) (l : Leaf) (c : Option Cell)
    → AreLeafLike Q l.request (leaf_notice m from i l c)
unfolding leaf_notice
leaf_notice_like Q m from i l None = (tt, inl refl)
leaf_notice_like Q m from i l (Some c) = leaf_act_like Q m from i l c.act

leaf_registered_like : (Q : Epr → Option Epr → Type 0) (m : Moment) (relates : Option (List ℕ)) (coordinator : Epr) (l : Leaf)
    → AreLeafLike Q l.request (leaf_registered m relates coordinator l)
unfolding leaf_registered
leaf_registered_like Q m relates coordinator l =
    either_leaf Q l.request (answers_leaf m relates l)
    (Goes (stays (posts (work_answer messages.WorkDone l.request)
    (begin (record l { state = states.Active; coordinator = Some coordinator; request = None }))))) (ignored l) (work_done_fine Q l.request, inr refl) (tt, inl refl)

leaf_fault_like : (Q : Epr → Option Epr → Type 0) (m : Moment) (relates : Option (List ℕ)) (name : List ℕ) (l : Leaf) → AreLeafLike Q l.request (leaf_fault m relates name l)
unfolding leaf_fault
leaf_fault_like Q m relates name l =
    either_leaf Q l.request (answers_leaf m relates l) (Goes (leaf_refused l)) _ (work_refused_fine Q l.request, tt)
    (either_leaf Q l.request (drops_leaf l name) (Goes (forgotten (begin l))) (ignored l) (tt, tt) (tt, inl refl))

pub leaf_like : (Q : Epr → Option Epr → Type 0) (m : Moment) (a : Arrived) (l : Leaf) (x : Message) → AreLeafLike Q l.request (on_leaf m a l x)
unfolding on_leaf
leaf_like Q m a l (messages.Notice n) = leaf_notice_like Q m a.from a.id l (participant_of l.kind l.state n)
leaf_like Q m a l (messages.RegisterResponse coordinator) = leaf_registered_like Q m a.relates coordinator l
leaf_like Q m a l (messages.Fault name) = leaf_fault_like Q m a.relates name l
leaf_like Q m a l other = (tt, inl refl)

abbrev pub IsOwnLeaf : (Epr → Option Epr → Type 0) → List ℕ → Leaf → Type 0
IsOwnLeaf Q base l = (r : WorkRequest) → l.request ≡ Some r → Q (endpoint_of base (leaf_target l)) (Some r.registration)

leaf_register_fine : (Q : Epr → Option Epr → Type 0) (m : Moment) (l : Leaf) (r : Option WorkRequest) → l.request ≡ r → IsOwnLeaf Q m.base l
    → AreFine Q (leaf_register_again m l r)
leaf_register_fine Q m l None e own = tt
leaf_register_fine Q m l (Some r) e own = (own r e, tt)

pub leaf_due_like : (Q : Epr → Option Epr → Type 0) (m : Moment) (l : Leaf) (reached : Reached) → IsOwnLeaf Q m.base l → AreLeafLike Q l.request (leaf_reached m l reached)
unfolding leaf_reached
leaf_due_like Q m l Expired own =
    either_left (LeafLike Q l.request) (is_state l.state states.Registering) (leaf_refused l) (leaf_aborts m None l) (work_refused_fine Q l.request, tt)
    (aborts_like Q l.request m None l)
leaf_due_like Q m l Over own = (tt, inl refl)
leaf_due_like Q m l Unanswered own = (
  all_if (IsFine Q) (is_state l.state states.Registering) (leaf_register_again m l l.request)
      (if is_state l.state states.PreparedSuccess then leaf_says m None notices.Prepared l else []) (leaf_register_fine Q m l l.request refl own)
      (all_if (IsFine Q) (is_state l.state states.PreparedSuccess) (leaf_says m None notices.Prepared l) [] (says_fine Q m None notices.Prepared l) tt),
  inl refl,
)
leaf_due_like Q m l Nothing own = (tt, inl refl)

-- Where an item registers: not chosen yet; at this endpoint; or it registers no more.
pub data Standing : Type 0 where
  Never : Standing
  At : Epr → Standing
  Silent : Standing

abbrev pub by_context : Option Context → Standing
by_context None = Silent
by_context (Some context) = At context.registration

abbrev pub standing_in : Progress → Option Context → Standing
standing_in Progress.Creating context = Never
standing_in Progress.Registering context = by_context context
standing_in Progress.Active context = by_context context
standing_in (Progress.Completing n) context = by_context context

abbrev pub activity_standing : Activity → Standing
activity_standing a = standing_in a.progress a.context

-- An activity keeps where it registers, once it has chosen, and registers there.
abbrev pub OwnsActivity : List ℕ → Activity → Activity → Epr → Option Epr → Type 0
OwnsActivity base a x participant to =
    (participant ≡ endpoint_of base (activity_target a)) × ((endpoint : Epr) × (activity_standing x ≡ At endpoint) × (to ≡ Some endpoint))

abbrev pub ActivityLike : List ℕ → Activity → Option Activity → List Post → Type 0
ActivityLike base a None ps = AreFine (λ participant to. ⊥) ps
ActivityLike base a (Some x) ps =
    AreFine (OwnsActivity base a x) ps × ((activity_standing a ≡ Never) ⊎ (activity_standing x ≡ activity_standing a))

abbrev pub AreActivityLike : List ℕ → Activity → Decision Activity → Type 0
AreActivityLike base a d = DecisionSays (λ c. ActivityLike base a c.item c.posts) Anything d

either_activity : (base : List ℕ) (a : Activity) (b : Bool) (d e : Decision Activity) → AreActivityLike base a d → AreActivityLike base a e → AreActivityLike base a (if b then d else e)
either_activity base a b d e h i = either_says (λ c. ActivityLike base a c.item c.posts) Anything b d e (λ x. h) (λ x. i)

same_activity : (base : List ℕ) (a : Activity) → AreActivityLike base a (ignored a)
same_activity base a = (tt, inr refl)

activity_act_like : (m : Moment) (from : Option Epr) (i : Option (List ℕ)) (a : Activity) (act : Act) → AreActivityLike m.base a (activity_act m from i a act)
unfolding activity_act
activity_act_like m from i a acts.TellCommitted = tt
activity_act_like m from i a acts.TellAborted = tt
activity_act_like m from i a acts.FaultInvalidState =
    (to_each_fine (OwnsActivity m.base a a) (stored_or a.coordinator from) (λ to. fault_post (Some to) i InvalidState) (λ to. tt), inr refl)
activity_act_like m from i a other = (tt, inr refl)

activity_notice_like : (m : Moment) (from : Option Epr) (i : Option (List ℕ)) (a : Activity) (c : Option Cell) → AreActivityLike m.base a (activity_notice m from i a c)
unfolding activity_notice
activity_notice_like m from i a None = (tt, inr refl)
activity_notice_like m from i a (Some c) = activity_act_like m from i a c.act

-- with its first context it chooses
chooses : (a : Activity) (p : Progress) → a.progress ≡ p → p ≡ Progress.Creating → activity_standing a ≡ Never
chooses a p e f = ap (λ q. standing_in q a.context) (e ∙ f)

with_context_like : (m : Moment) (context : Context) (a : Activity) → activity_standing a ≡ Never → AreActivityLike m.base a (with_context m context a)
with_context_like m context a e =
    either_activity m.base a (is_begun a) _ (Goes (stays (begin (record a { progress = Progress.Active; context = Some context }))))
    (((refl, (context.registration, refl, refl)), tt), inl e) (tt, inl e)

activity_created_like : (m : Moment) (relates : Option (List ℕ)) (context : Context) (a : Activity) (p : Progress) → a.progress ≡ p
    → AreActivityLike m.base a (activity_created m relates context a p)
unfolding activity_created
activity_created_like m relates context a Progress.Creating e =
    either_activity m.base a (relates_to relates (create_id m.base (activity_target a))) (with_context m context a) (ignored a)
    (with_context_like m context a (chooses a Progress.Creating e refl)) (same_activity m.base a)
activity_created_like m relates context a Progress.Registering e = same_activity m.base a
activity_created_like m relates context a Progress.Active e = same_activity m.base a
activity_created_like m relates context a (Progress.Completing n) e = same_activity m.base a

activity_registered_like : (m : Moment) (relates : Option (List ℕ)) (coordinator : Epr) (a : Activity) (p : Progress) → a.progress ≡ p
    → AreActivityLike m.base a (activity_registered m relates coordinator a p)
unfolding activity_registered
activity_registered_like m relates coordinator a Progress.Registering e =
    either_activity m.base a (relates_to relates (register_id m.base (activity_target a)))
    (Goes (stays (begin (record a { progress = Progress.Active; coordinator = Some coordinator })))) (ignored a)
    (tt, inr (ap (λ q. standing_in q a.context) (sym e))) (same_activity m.base a)
activity_registered_like m relates coordinator a Progress.Creating e = same_activity m.base a
activity_registered_like m relates coordinator a Progress.Active e = same_activity m.base a
activity_registered_like m relates coordinator a (Progress.Completing n) e = same_activity m.base a

activity_fault_like : (m : Moment) (relates : Option (List ℕ)) (name : List ℕ) (a : Activity) (p : Progress) → AreActivityLike m.base a (activity_fault m relates name a p)
unfolding activity_fault
activity_fault_like m relates name a Progress.Creating = either_activity m.base a _ (told tellings.Refused a) (ignored a) tt (same_activity m.base a)
activity_fault_like m relates name a Progress.Registering = either_activity m.base a _ (told tellings.Refused a) (ignored a) tt (same_activity m.base a)
activity_fault_like m relates name a Progress.Active = same_activity m.base a
activity_fault_like m relates name a (Progress.Completing n) = either_activity m.base a _ (told tellings.Unknown a) (ignored a) tt (same_activity m.base a)

pub activity_like : (m : Moment) (r : Arrived) (a : Activity) (x : Message) → AreActivityLike m.base a (on_activity m r a x)
unfolding on_activity
activity_like m r a (messages.Notice n) = activity_notice_like m r.from r.id a (initiator_of (activity_state a.progress) n)
activity_like m r a (messages.CreateResponse context) = activity_created_like m r.relates context a a.progress refl
activity_like m r a (messages.RegisterResponse coordinator) = activity_registered_like m r.relates coordinator a a.progress refl
activity_like m r a (messages.Fault name) = activity_fault_like m r.relates name a a.progress
activity_like m r a other = same_activity m.base a

completion_again_fine : (base : List ℕ) (a x : Activity) (context : Option Context) → activity_standing x ≡ by_context context
    → AreFine (OwnsActivity base a x) (completion_register_again base a context)
completion_again_fine base a x None e = tt
completion_again_fine base a x (Some context) e = ((refl, (context.registration, e, refl)), tt)

activity_again_fine : (base : List ℕ) (a x : Activity) (p : Progress) → a.progress ≡ p → x.progress ≡ a.progress → x.context ≡ a.context
    → AreFine (OwnsActivity base a x) (activity_again base a p)
activity_again_fine base a x Progress.Creating e f g = tt
activity_again_fine base a x Progress.Registering e f g = completion_again_fine base a x a.context (λ i. standing_in ((f ∙ e) i) (g i))
activity_again_fine base a x Progress.Active e f g = tt
activity_again_fine base a x (Progress.Completing n) e f g =
    to_each_fine (OwnsActivity base a x) a.coordinator (λ to. notice_post base (activity_target a) to n) (λ to. tt)

pub activity_due_like : (m : Moment) (a : Activity) (reached : Reached) → AreActivityLike m.base a (activity_reached m a reached)
unfolding activity_reached
activity_due_like m a Expired = tt
activity_due_like m a Over = same_activity m.base a
activity_due_like m a Unanswered = (activity_again_fine m.base a (record a { sent = Some m.now }) a.progress refl refl refl, inr refl)
activity_due_like m a Nothing = same_activity m.base a

pub asks_like : (m : Moment) (url : List ℕ) (kind : Kind) (vote : Vote) (key value : List ℕ) (a : Activity) (context : Option Context)
    → AreActivityLike m.base a (Goes (on_ask m url kind vote key value a context))
unfolding on_ask
asks_like m url kind vote key value a None = (tt, inr refl)
asks_like m url kind vote key value a (Some context) = ((tt, tt), inr refl)

completing : (p : Progress) (n : Notice) (context : Option Context) → (standing_in p context ≡ Never) ⊎ (standing_in (Progress.Completing n) context ≡ standing_in p context)
completing Progress.Creating n context = inl refl
completing Progress.Registering n context = inr refl
completing Progress.Active n context = inr refl
completing (Progress.Completing k) n context = inr refl

pub completes_like : (m : Moment) (n : Notice) (a : Activity) → AreActivityLike m.base a (Goes (on_complete m n a))
unfolding on_complete
completes_like m n a = (
  to_each_fine (OwnsActivity m.base a (record a { progress = Progress.Completing n; sent = Some m.now })) a.coordinator
      (λ to. notice_post m.base (activity_target a) to n) (λ to. tt),
  completing a.progress n a.context,
)
