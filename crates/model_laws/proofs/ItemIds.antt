-- A decision leaves an item's id as it is, and what it records is about that id.
use Rattle.std.specs.Prelude.{ℕ, List, Option, Some, None, Bool, ◌≡◌, refl, if◌then◌else◌, not}
use Rattle.std.specs.List.{list_any}
use Rattle.at_base.specs.Numbers.{Numbers}
use Rattle.at_base.specs.declared.epr.Epr.{Epr}
use Rattle.at_base.specs.declared.notice.Kind.{Kind}
use Rattle.at_base.specs.declared.notice.Kind.TheVariants as kinds
use Rattle.at_base.specs.declared.notice.Notice.{Notice}
use Rattle.at_base.specs.declared.notice.Vote.{Vote}
use Rattle.at_base.specs.declared.notice.Vote.TheVariants as votes
use Rattle.at_base.specs.declared.message.Message.{Message}
use Rattle.at_base.specs.declared.message.Message.TheVariants as messages
use Rattle.at_base.specs.declared.message.Context.{Context}
use Rattle.at_base.specs.declared.message.Register.{Register}
use Rattle.at_base.specs.declared.record.Record.{Record}
use Rattle.at_base.specs.declared.record.Record.TheVariants as records
use Rattle.at_base.specs.declared.event.Arrived.{Arrived}
use Rattle.at_base.specs.declared.event.Moment.{Moment}
use Rattle.at_base.specs.declared.outs.Told.TheVariants as tellings
use Rattle.at_tables.specs.declared.cells.State.TheVariants as states
use Rattle.at_tables.specs.declared.cells.Act.{Act}
use Rattle.at_tables.specs.declared.cells.Act.TheVariants as acts
use Rattle.at_tables.specs.declared.cells.Cell.{Cell}
use Rattle.at_tables.specs.Names.{is_state}
use Rattle.at_tables.specs.Tables.{coordinator_of, participant_of, completion_of, initiator_of}
use Rattle.at_model.specs.Book.{Transaction, Leaf, Activity, Enlistment, Completion, Superior, Phase, Progress}
use Rattle.endpoints.specs.Addresses.{register_id}
use Rattle.at_model.specs.Moves.{Moving, Decision, Goes, begin, become, stays, forgotten, ignored}
use Rattle.at_model.specs.Seats.{answered, all_left, in_state, is_prepared_durable, in_phase}
use Rattle.at_model.specs.Abort.{Reason, Alone, Asked, until_rolled_back, abort}
use Rattle.at_model.specs.Phases.{decided, committed, root_answered, voted, sub_answered, durable_answered, if_durable_answered, prepare_seats, go_durable, volatile_answered, all_committed, advance_in, go_volatile}
use Rattle.at_model.specs.Arrivals.{seat_act, seat_notice, commit_voted, link_act, link_notice, completion_act, completion_notice, relates_to, link_registered, link_fault, on_link, on_seat, on_completion, with_answer}
use Rattle.at_model.specs.Register.{Registration, accept, register_new, register_again, on_register, may_register, protocol_named, held_seat}
use Rattle.at_model.specs.Leaves.{leaf_votes, leaf_records_vote, leaf_commit, leaf_roll_back, leaf_act, leaf_notice, answers_leaf, leaf_registered, drops_leaf, leaf_fault, on_leaf}
use Rattle.at_model.specs.Activities.{is_begun, told, activity_target, activity_act, activity_notice, with_context, activity_created, activity_registered, activity_fault, on_activity, activity_state, on_ask, on_complete}
use Rattle.at_model.specs.Due.{Reached, Expired, Over, Unanswered, Nothing, transaction_reached, leaf_reached, leaf_expires, activity_reached}
use Rattle.model_laws.specs.Laws.{HasId, HasLeafId}
use Rattle.model_laws.proofs.DecisionLaws.{either_of, DecisionHas, either_has, either_change, with_answer_has}

-- what a record of a transaction, and one of a leaf, is about
abbrev pub IsOfTransaction : Numbers → Record → Type 0
IsOfTransaction id (records.Voted i superior seats) = i ≡ id
IsOfTransaction id (records.Decided i seats) = i ≡ id
IsOfTransaction id (records.SubCommitted i) = i ≡ id
IsOfTransaction id (records.Ended i) = i ≡ id
IsOfTransaction id other = ⊥

abbrev pub IsOfLeaf : Numbers → Record → Type 0
IsOfLeaf id (records.LeafPrepared i coordinator key value) = i ≡ id
IsOfLeaf id (records.LeafCommitted i) = i ≡ id
IsOfLeaf id (records.LeafAborted i) = i ≡ id
IsOfLeaf id other = ⊥

abbrev pub Names : Numbers → Record → Option Transaction → Type 0
Names id r left = IsOfTransaction id r

abbrev pub NamesLeaf : Numbers → Record → Option Leaf → Type 0
NamesLeaf id r left = IsOfLeaf id r

-- transactions
abbrev pub Kept : Numbers → Decision Transaction → Type 0
Kept id d = DecisionHas (HasId id) (Names id) d

either : (id : Numbers) (b : Bool) (d e : Decision Transaction) → Kept id d → Kept id e → Kept id (if b then d else e)
either id b d e h k = either_has (HasId id) (Names id) b d e (λ x. h) (λ x. k)

rolled_back : (id : Numbers) (g : Moving Transaction) → g.item.id ≡ id → HasId id (until_rolled_back g).item
rolled_back id g h = either_change (HasId id) (list_any (in_state states.Aborting) g.item.seats) (stays g) (forgotten g) h tt

abort_kept : (id : Numbers) (m : Moment) (reason : Reason) (g : Moving Transaction) → g.item.id ≡ id → HasId id (abort m reason g).item
unfolding abort
abort_kept id m reason g h = search rolled_back

decided_kept : (id : Numbers) (m : Moment) (g : Moving Transaction) → g.item.id ≡ id → (decided m g).item.id ≡ id
unfolding decided
decided_kept id m g h = h

committed_kept : (id : Numbers) (m : Moment) (g : Moving Transaction) → g.item.id ≡ id → HasId id (committed m g).item
unfolding committed
committed_kept id m g h =
    either_change (HasId id) (list_any is_prepared_durable g.item.seats) (stays (decided m g)) (forgotten (decided m g)) (decided_kept id m g h) tt

root_kept : (id : Numbers) (m : Moment) (g : Moving Transaction) → g.item.id ≡ id → Kept id (root_answered m g)
unfolding root_answered
root_kept id m g h = record { entry = h; landed = committed_kept id m g h; otherwise = abort_kept id m Alone g h }

voted_kept : (id : Numbers) (m : Moment) (s : Superior) (g : Moving Transaction) → g.item.id ≡ id → (voted m s g).item.id ≡ id
unfolding voted
voted_kept id m s g h = h

sub_kept : (id : Numbers) (m : Moment) (s : Superior) (superior : Option Epr) (g : Moving Transaction) → g.item.id ≡ id → Kept id (sub_answered m s superior g)
unfolding sub_answered
sub_kept id m s None g h = abort_kept id m Alone g h
sub_kept id m s (Some superior) g h =
    either id (list_any is_prepared_durable g.item.seats) _ _
    (record { entry = h; landed = voted_kept id m s g h; otherwise = abort_kept id m Alone g h }) tt

durable_kept : (id : Numbers) (m : Moment) (s : Option Superior) (g : Moving Transaction) → g.item.id ≡ id → Kept id (durable_answered m s g)
durable_kept id m None g h = root_kept id m g h
durable_kept id m (Some s) g h = sub_kept id m s s.durable.coordinator g h

if_durable_kept : (id : Numbers) (m : Moment) (g : Moving Transaction) → g.item.id ≡ id → Kept id (if_durable_answered m g)
if_durable_kept id m g h = either id (answered kinds.Durable g.item.seats) _ _ (durable_kept id m g.item.superior g h) h

go_durable_kept : (id : Numbers) (m : Moment) (g : Moving Transaction) → g.item.id ≡ id → Kept id (go_durable m g)
unfolding go_durable
go_durable_kept id m g h = if_durable_kept id m (prepare_seats m kinds.Durable (become (in_phase Phase.Durable g.item) g)) h

volatile_kept : (id : Numbers) (m : Moment) (s : Option Superior) (g : Moving Transaction) → g.item.id ≡ id → Kept id (volatile_answered m s g)
unfolding volatile_answered
volatile_kept id m None g h = go_durable_kept id m g h
volatile_kept id m (Some s) g h =
    either id (is_state s.volatile.state states.Preparing) _ _ h
    (either id (is_state s.durable.state states.Preparing) _ _ (go_durable_kept id m g h) h)

all_committed_kept : (id : Numbers) (m : Moment) (g : Moving Transaction) → g.item.id ≡ id → Kept id (all_committed m g)
unfolding all_committed
all_committed_kept id m g h = record { entry = h; landed = tt; otherwise = tt }

advance_kept : (id : Numbers) (m : Moment) (phase : Phase) (g : Moving Transaction) → g.item.id ≡ id → Kept id (advance_in m phase g)
unfolding advance_in
advance_kept id m Phase.Registering g h = h
advance_kept id m Phase.Active g h = h
advance_kept id m Phase.Volatile g h = either id (answered kinds.Volatile g.item.seats) _ _ (volatile_kept id m g.item.superior g h) h
advance_kept id m Phase.Durable g h = if_durable_kept id m g h
advance_kept id m Phase.Voted g h = h
advance_kept id m Phase.Committing g h = either id (all_left g.item.seats) _ _ (all_committed_kept id m g h) h
advance_kept id m Phase.Aborting g h = rolled_back id g h

go_volatile_kept : (id : Numbers) (m : Moment) (g : Moving Transaction) → g.item.id ≡ id → Kept id (go_volatile m g)
unfolding go_volatile
go_volatile_kept id m g h = advance_kept id m _ _ h

commit_kept : (id : Numbers) (m : Moment) (s : Superior) (t : Transaction) → t.id ≡ id → Kept id (commit_voted m s t)
unfolding commit_voted
commit_kept id m s t h = record { entry = h; landed = h; otherwise = tt }

ruleset kept = (either, rolled_back, abort_kept, advance_kept, go_volatile_kept, commit_kept)

seat_act_kept : (id : Numbers) (m : Moment) (i : Option (List ℕ)) (t : Transaction) (s : Enlistment) (act : Act) → t.id ≡ id → Kept id (seat_act m i t s act)
unfolding seat_act
seat_act_kept id m i t s acts.Ignore h = search kept
seat_act_kept id m i t s acts.SendPrepared h = search kept
seat_act_kept id m i t s acts.SendCommit h = search kept
seat_act_kept id m i t s acts.SendRollback h = search kept
seat_act_kept id m i t s acts.SendCommitted h = search kept
seat_act_kept id m i t s acts.SendAborted h = search kept
seat_act_kept id m i t s acts.FaultUnknownTransaction h = search kept
seat_act_kept id m i t s acts.FaultInvalidState h = search kept
seat_act_kept id m i t s acts.FaultInvalidStateAndAbort h = search kept
seat_act_kept id m i t s acts.Leave h = search kept
seat_act_kept id m i t s acts.LeaveAndAbort h = search kept
seat_act_kept id m i t s acts.Vote h = search kept
seat_act_kept id m i t s acts.Gather h = search kept
seat_act_kept id m i t s acts.Commit h = search kept
seat_act_kept id m i t s acts.AbortAndSendAborted h = search kept
seat_act_kept id m i t s acts.RecordAndSendAborted h = search kept
seat_act_kept id m i t s acts.Complete h = search kept
seat_act_kept id m i t s acts.TellCommitted h = search kept
seat_act_kept id m i t s acts.TellAborted h = search kept

seat_notice_kept : (id : Numbers) (m : Moment) (i : Option (List ℕ)) (t : Transaction) (s : Enlistment) (c : Option Cell) → t.id ≡ id → Kept id (seat_notice m i t s c)
unfolding seat_notice
seat_notice_kept id m i t s None h = h
seat_notice_kept id m i t s (Some c) h = seat_act_kept id m i t s c.act h

pub seat_kept : (id : Numbers) (m : Moment) (a : Arrived) (t : Transaction) (s : Enlistment) (x : Message) → t.id ≡ id → Kept id (on_seat m a t s x)
unfolding on_seat
seat_kept id m a t s (messages.Notice n) h = seat_notice_kept id m a.id t s (coordinator_of s.kind s.state n) h
seat_kept id m a t s other h = h

link_act_kept : (id : Numbers) (m : Moment) (from : Option Epr) (i : Option (List ℕ)) (kind : Kind) (s : Superior) (t : Transaction) (act : Act) → t.id ≡ id
    → Kept id (link_act m from i kind s t act)
unfolding link_act
link_act_kept id m from i kind s t acts.Ignore h = search kept
link_act_kept id m from i kind s t acts.SendPrepared h = search kept
link_act_kept id m from i kind s t acts.SendCommit h = search kept
link_act_kept id m from i kind s t acts.SendRollback h = search kept
link_act_kept id m from i kind s t acts.SendCommitted h = search kept
link_act_kept id m from i kind s t acts.SendAborted h = search kept
link_act_kept id m from i kind s t acts.FaultUnknownTransaction h = search kept
link_act_kept id m from i kind s t acts.FaultInvalidState h = search kept
link_act_kept id m from i kind s t acts.FaultInvalidStateAndAbort h = search kept
link_act_kept id m from i kind s t acts.Leave h = search kept
link_act_kept id m from i kind s t acts.LeaveAndAbort h = search kept
link_act_kept id m from i kind s t acts.Vote h = search kept
link_act_kept id m from i kind s t acts.Gather h = go_volatile_kept id m _ h
link_act_kept id m from i kind s t acts.Commit h = search kept
link_act_kept id m from i kind s t acts.AbortAndSendAborted h = search kept
link_act_kept id m from i kind s t acts.RecordAndSendAborted h = record { entry = h; landed = abort_kept id m (Asked kind from) (begin t) h; otherwise = tt }
link_act_kept id m from i kind s t acts.Complete h = search kept
link_act_kept id m from i kind s t acts.TellCommitted h = search kept
link_act_kept id m from i kind s t acts.TellAborted h = search kept

link_notice_kept : (id : Numbers) (m : Moment) (from : Option Epr) (i : Option (List ℕ)) (kind : Kind) (s : Superior) (t : Transaction) (c : Option Cell) → t.id ≡ id
    → Kept id (link_notice m from i kind s t c)
unfolding link_notice
link_notice_kept id m from i kind s t None h = h
link_notice_kept id m from i kind s t (Some c) h = link_act_kept id m from i kind s t c.act h

link_registered_kept : (id : Numbers) (m : Moment) (relates : Option (List ℕ)) (coordinator : Epr) (kind : Kind) (s : Superior) (t : Transaction) → t.id ≡ id
    → Kept id (link_registered m relates coordinator kind s t)
unfolding link_registered
link_registered_kept id m relates coordinator kind s t h = search either

link_fault_kept : (id : Numbers) (m : Moment) (relates : Option (List ℕ)) (kind : Kind) (s : Superior) (t : Transaction) → t.id ≡ id → Kept id (link_fault m relates kind s t)
unfolding link_fault
link_fault_kept id m relates kind s t h = search (either, abort_kept)

pub link_kept : (id : Numbers) (m : Moment) (a : Arrived) (kind : Kind) (t : Transaction) (s : Superior) (x : Message) → t.id ≡ id → Kept id (on_link m a kind t s x)
unfolding on_link
link_kept id m a kind t s (messages.Notice n) h = link_notice_kept id m a.from a.id kind s t _ h
link_kept id m a kind t s (messages.RegisterResponse coordinator) h = link_registered_kept id m a.relates coordinator kind s t h
link_kept id m a kind t s (messages.Fault name) h = link_fault_kept id m a.relates kind s t h
link_kept id m a kind t s other h = h

completion_act_kept : (id : Numbers) (m : Moment) (from : Option Epr) (i : Option (List ℕ)) (c : Completion) (t : Transaction) (act : Act) → t.id ≡ id → Kept id (completion_act m from i c t act)
unfolding completion_act
completion_act_kept id m from i c t acts.SendCommitted h = h
completion_act_kept id m from i c t acts.FaultUnknownTransaction h = h
completion_act_kept id m from i c t acts.FaultInvalidState h = h
completion_act_kept id m from i c t acts.Complete h = go_volatile_kept id m _ h
completion_act_kept id m from i c t acts.AbortAndSendAborted h = abort_kept id m Alone (begin t) h
completion_act_kept id m from i c t other h = h

completion_notice_kept : (id : Numbers) (m : Moment) (from : Option Epr) (i : Option (List ℕ)) (c : Completion) (t : Transaction) (cell : Option Cell) → t.id ≡ id → Kept id (completion_notice m from i c t cell)
unfolding completion_notice
completion_notice_kept id m from i c t None h = h
completion_notice_kept id m from i c t (Some cell) h = completion_act_kept id m from i c t cell.act h

pub completion_kept : (id : Numbers) (m : Moment) (a : Arrived) (t : Transaction) (c : Completion) (x : Message) → t.id ≡ id → Kept id (on_completion m a t c x)
unfolding on_completion
completion_kept id m a t c (messages.Notice n) h = completion_notice_kept id m a.from a.id c t (completion_of c.state n) h
completion_kept id m a t c other h = h

pub due_kept : (id : Numbers) (m : Moment) (t : Transaction) (reached : Reached) → t.id ≡ id → Kept id (transaction_reached m t reached)
unfolding transaction_reached
due_kept id m t Expired h = abort_kept id m Alone (begin t) h
due_kept id m t Over h = tt
due_kept id m t Unanswered h = h
due_kept id m t Nothing h = h

pub with_answer_kept : (id : Numbers) (m : Moment) (t : Transaction) (d : Decision Transaction) → Kept id d → Kept id (with_answer m t d)
with_answer_kept id m t d h = with_answer_has (HasId id) (Names id) (λ s x e k. k) (λ r s x e k. k) m t d h

-- registration
accept_kept : (id : Numbers) (m : Moment) (a : Arrived) (t : Transaction) (participant : Epr) (kind : Option Kind) → t.id ≡ id → (accept m a t participant kind).transaction.id ≡ id
unfolding accept
accept_kept id m a t participant (Some kind) h = h
accept_kept id m a t participant None h = h

register_new_kept : (id : Numbers) (m : Moment) (a : Arrived) (r : Register) (t : Transaction) (kind : Option (Option Kind)) → t.id ≡ id
    → (register_new m a r t kind).transaction.id ≡ id
unfolding register_new
register_new_kept id m a r t None h = h
register_new_kept id m a r t (Some kind) h =
    either_of (λ (x : Registration). x.transaction.id ≡ id) (not a.postable) _ _ (λ e. h)
    (λ e. either_of (λ (x : Registration). x.transaction.id ≡ id) (may_register t kind) _ _ (λ f. accept_kept id m a t r.participant kind h) (λ f. h))

register_again_kept : (id : Numbers) (m : Moment) (a : Arrived) (r : Register) (t : Transaction) (kind : Option (Option Kind)) (held : Option Epr) → t.id ≡ id
    → (register_again m a r t kind held).transaction.id ≡ id
unfolding register_again
register_again_kept id m a r t kind (Some coordinator) h = h
register_again_kept id m a r t kind None h = register_new_kept id m a r t kind h

pub register_kept : (id : Numbers) (m : Moment) (a : Arrived) (r : Register) (t : Transaction) → t.id ≡ id → (on_register m a r t).transaction.id ≡ id
unfolding on_register
register_kept id m a r t h = register_again_kept id m a r t (protocol_named r.protocol) (held_seat m r t (protocol_named r.protocol)) h

-- leaves
abbrev pub LeafKept : Numbers → Decision Leaf → Type 0
LeafKept id d = DecisionHas (HasLeafId id) (NamesLeaf id) d

either_leaf : (id : Numbers) (b : Bool) (d e : Decision Leaf) → LeafKept id d → LeafKept id e → LeafKept id (if b then d else e)
either_leaf id b d e h k = either_has (HasLeafId id) (NamesLeaf id) b d e (λ x. h) (λ x. k)

records_vote_kept : (id : Numbers) (m : Moment) (coordinator : Option Epr) (l : Leaf) → l.id ≡ id → LeafKept id (leaf_records_vote m coordinator l)
records_vote_kept id m None l h = tt
records_vote_kept id m (Some coordinator) l h = record { entry = h; landed = h; otherwise = tt }

votes_kept : (id : Numbers) (m : Moment) (from : Option Epr) (l : Leaf) (kind : Kind) (vote : Vote) → l.id ≡ id → LeafKept id (leaf_votes m from l kind vote)
unfolding leaf_votes
votes_kept id m from l kinds.Durable votes.Prepared h = records_vote_kept id m l.coordinator l h
votes_kept id m from l kinds.Volatile votes.Prepared h = h
votes_kept id m from l kind votes.ReadOnly h = tt
votes_kept id m from l kind votes.Aborted h = tt

leaf_commit_kept : (id : Numbers) (m : Moment) (from : Option Epr) (l : Leaf) (kind : Kind) → l.id ≡ id → LeafKept id (leaf_commit m from l kind)
unfolding leaf_commit
leaf_commit_kept id m from l kinds.Durable h = record { entry = h; landed = tt; otherwise = tt }
leaf_commit_kept id m from l kinds.Volatile h = tt

leaf_roll_back_kept : (id : Numbers) (m : Moment) (from : Option Epr) (l : Leaf) (kind : Kind) → l.id ≡ id → LeafKept id (leaf_roll_back m from l kind)
unfolding leaf_roll_back
leaf_roll_back_kept id m from l kinds.Durable h = record { entry = h; landed = tt; otherwise = tt }
leaf_roll_back_kept id m from l kinds.Volatile h = tt

leaf_act_kept : (id : Numbers) (m : Moment) (from : Option Epr) (i : Option (List ℕ)) (l : Leaf) (act : Act) → l.id ≡ id → LeafKept id (leaf_act m from i l act)
unfolding leaf_act
leaf_act_kept id m from i l acts.Gather h = votes_kept id m from l l.kind l.vote h
leaf_act_kept id m from i l acts.SendPrepared h = h
leaf_act_kept id m from i l acts.Commit h = leaf_commit_kept id m from l l.kind h
leaf_act_kept id m from i l acts.AbortAndSendAborted h = tt
leaf_act_kept id m from i l acts.RecordAndSendAborted h = leaf_roll_back_kept id m from l l.kind h
leaf_act_kept id m from i l acts.FaultInvalidState h = h
leaf_act_kept id m from i l acts.FaultInvalidStateAndAbort h = tt
leaf_act_kept id m from i l other h = h

leaf_notice_kept : (id : Numbers) (m : Moment) (from : Option Epr) (i : Option (List ℕ)) (l : Leaf) (c : Option Cell) → l.id ≡ id → LeafKept id (leaf_notice m from i l c)
unfolding leaf_notice
leaf_notice_kept id m from i l None h = h
leaf_notice_kept id m from i l (Some c) h = leaf_act_kept id m from i l c.act h

leaf_registered_kept : (id : Numbers) (m : Moment) (relates : Option (List ℕ)) (coordinator : Epr) (l : Leaf) → l.id ≡ id → LeafKept id (leaf_registered m relates coordinator l)
unfolding leaf_registered
leaf_registered_kept id m relates coordinator l h = either_leaf id (answers_leaf m relates l) _ _ h h

leaf_fault_kept : (id : Numbers) (m : Moment) (relates : Option (List ℕ)) (name : List ℕ) (l : Leaf) → l.id ≡ id → LeafKept id (leaf_fault m relates name l)
unfolding leaf_fault
leaf_fault_kept id m relates name l h = either_leaf id (answers_leaf m relates l) _ _ tt (either_leaf id (drops_leaf l name) _ _ tt h)

pub leaf_kept : (id : Numbers) (m : Moment) (a : Arrived) (l : Leaf) (x : Message) → l.id ≡ id → LeafKept id (on_leaf m a l x)
unfolding on_leaf
leaf_kept id m a l (messages.Notice n) h = leaf_notice_kept id m a.from a.id l (participant_of l.kind l.state n) h
leaf_kept id m a l (messages.RegisterResponse coordinator) h = leaf_registered_kept id m a.relates coordinator l h
leaf_kept id m a l (messages.Fault name) h = leaf_fault_kept id m a.relates name l h
leaf_kept id m a l other h = h

leaf_expires_kept : (id : Numbers) (m : Moment) (l : Leaf) → HasLeafId id (leaf_expires m l).item
leaf_expires_kept id m l = either_change (HasLeafId id) (is_state l.state states.Registering) _ _ tt tt

pub leaf_due_kept : (id : Numbers) (m : Moment) (l : Leaf) (reached : Reached) → l.id ≡ id → LeafKept id (leaf_reached m l reached)
unfolding leaf_reached
leaf_due_kept id m l Expired h = leaf_expires_kept id m l
leaf_due_kept id m l Over h = h
leaf_due_kept id m l Unanswered h = h
leaf_due_kept id m l Nothing h = h

-- activities keep their root, too, and record nothing
pub record IsSame (old new : Activity) : Type 0 where
  pub own : new.id ≡ old.id
  pub root : new.root ≡ old.root

abbrev pub HasBoth : Activity → Option Activity → Type 0
HasBoth a None = Unit {0}
HasBoth a (Some x) = IsSame a x

abbrev pub NoRecord : Record → Option Activity → Type 0
NoRecord r left = ⊥

abbrev pub ActivityKept : Activity → Decision Activity → Type 0
ActivityKept a d = DecisionHas (HasBoth a) NoRecord d

same : (a x : Activity) → x.id ≡ a.id → x.root ≡ a.root → IsSame a x
same a x h k = record { own = h; root = k }

either_activity : (a : Activity) (b : Bool) (d e : Decision Activity) → ActivityKept a d → ActivityKept a e → ActivityKept a (if b then d else e)
either_activity a b d e h k = either_has (HasBoth a) NoRecord b d e (λ x. h) (λ x. k)

or_ignored : (a : Activity) (b : Bool) (d : Decision Activity) → ActivityKept a d → ActivityKept a (if b then d else ignored a)
or_ignored a b d h = either_activity a b d (ignored a) h (record { own = refl; root = refl })

activity_act_kept : (m : Moment) (from : Option Epr) (i : Option (List ℕ)) (a : Activity) (act : Act) → ActivityKept a (activity_act m from i a act)
unfolding activity_act
activity_act_kept m from i a acts.TellCommitted = tt
activity_act_kept m from i a acts.TellAborted = tt
activity_act_kept m from i a acts.FaultInvalidState = record { own = refl; root = refl }
activity_act_kept m from i a other = record { own = refl; root = refl }

activity_notice_kept : (m : Moment) (from : Option Epr) (i : Option (List ℕ)) (a : Activity) (c : Option Cell) → ActivityKept a (activity_notice m from i a c)
unfolding activity_notice
activity_notice_kept m from i a None = record { own = refl; root = refl }
activity_notice_kept m from i a (Some c) = activity_act_kept m from i a c.act

with_context_kept : (m : Moment) (context : Context) (a : Activity) → ActivityKept a (with_context m context a)
with_context_kept m context a = either_activity a (is_begun a) _ _ (record { own = refl; root = refl }) (record { own = refl; root = refl })

activity_created_kept : (m : Moment) (relates : Option (List ℕ)) (context : Context) (a : Activity) (p : Progress) → ActivityKept a (activity_created m relates context a p)
unfolding activity_created
activity_created_kept m relates context a Progress.Creating = or_ignored a _ (with_context m context a) (with_context_kept m context a)
activity_created_kept m relates context a other = record { own = refl; root = refl }

activity_registered_kept : (m : Moment) (relates : Option (List ℕ)) (coordinator : Epr) (a : Activity) (p : Progress) → ActivityKept a (activity_registered m relates coordinator a p)
unfolding activity_registered
activity_registered_kept m relates coordinator a Progress.Registering =
    or_ignored a (relates_to relates (register_id m.base (activity_target a)))
    (Goes (stays (begin (record a { progress = Progress.Active; coordinator = Some coordinator })))) (record { own = refl; root = refl })
activity_registered_kept m relates coordinator a other = record { own = refl; root = refl }

activity_fault_kept : (m : Moment) (relates : Option (List ℕ)) (name : List ℕ) (a : Activity) (p : Progress) → ActivityKept a (activity_fault m relates name a p)
unfolding activity_fault
activity_fault_kept m relates name a Progress.Creating = or_ignored a _ (told tellings.Refused a) tt
activity_fault_kept m relates name a Progress.Registering = or_ignored a _ (told tellings.Refused a) tt
activity_fault_kept m relates name a Progress.Active = record { own = refl; root = refl }
activity_fault_kept m relates name a (Progress.Completing n) = or_ignored a _ (told tellings.Unknown a) tt

pub activity_kept : (m : Moment) (r : Arrived) (a : Activity) (x : Message) → ActivityKept a (on_activity m r a x)
unfolding on_activity
activity_kept m r a (messages.Notice n) = activity_notice_kept m r.from r.id a (initiator_of (activity_state a.progress) n)
activity_kept m r a (messages.CreateResponse context) = activity_created_kept m r.relates context a a.progress
activity_kept m r a (messages.RegisterResponse coordinator) = activity_registered_kept m r.relates coordinator a a.progress
activity_kept m r a (messages.Fault name) = activity_fault_kept m r.relates name a a.progress
activity_kept m r a other = record { own = refl; root = refl }

pub activity_due_kept : (m : Moment) (a : Activity) (reached : Reached) → ActivityKept a (activity_reached m a reached)
unfolding activity_reached
activity_due_kept m a Expired = tt
activity_due_kept m a Over = record { own = refl; root = refl }
activity_due_kept m a Unanswered = record { own = refl; root = refl }
activity_due_kept m a Nothing = record { own = refl; root = refl }

pub asks_kept : (m : Moment) (url : List ℕ) (kind : Kind) (vote : Vote) (key value : List ℕ) (a : Activity) (context : Option Context)
    → ActivityKept a (Goes (on_ask m url kind vote key value a context))
unfolding on_ask
asks_kept m url kind vote key value a None = record { own = refl; root = refl }
asks_kept m url kind vote key value a (Some context) = record { own = refl; root = refl }

pub completes_kept : (m : Moment) (n : Notice) (a : Activity) → ActivityKept a (Goes (on_complete m n a))
unfolding on_complete
completes_kept m n a = record { own = refl; root = refl }
