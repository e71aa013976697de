-- What happens at a leaf and at an activity is no root's end.
use Rattle.std.specs.Prelude.{ℕ, List, Option, Some, None, Bool, if◌then◌else◌}
use Rattle.at_base.specs.declared.epr.Epr.{Epr}
use Rattle.at_base.specs.declared.notice.Kind.{Kind}
use Rattle.at_base.specs.declared.notice.Kind.TheVariants as kinds
use Rattle.at_base.specs.declared.notice.Notice.{Notice}
use Rattle.at_base.specs.declared.notice.Vote.{Vote}
use Rattle.at_base.specs.declared.notice.Vote.TheVariants as votes
use Rattle.at_base.specs.declared.message.Message.{Message}
use Rattle.at_base.specs.declared.message.Message.TheVariants as messages
use Rattle.at_base.specs.declared.message.Context.{Context}
use Rattle.at_base.specs.declared.record.Record.{Record}
use Rattle.at_base.specs.declared.event.Arrived.{Arrived}
use Rattle.at_base.specs.declared.event.Moment.{Moment}
use Rattle.at_base.specs.declared.outs.Told.TheVariants as tellings
use Rattle.at_tables.specs.declared.cells.State.TheVariants as states
use Rattle.at_tables.specs.declared.cells.Act.{Act}
use Rattle.at_tables.specs.declared.cells.Act.TheVariants as acts
use Rattle.at_tables.specs.declared.cells.Cell.{Cell}
use Rattle.at_tables.specs.Names.{is_state}
use Rattle.at_tables.specs.Tables.{participant_of, initiator_of}
use Rattle.at_model.specs.Book.{Leaf, Activity, Progress}
use Rattle.endpoints.specs.Addresses.{register_id}
use Rattle.at_model.specs.Moves.{Decision, Goes, begin, stays, forgotten, ignored}
use Rattle.at_model.specs.Arrivals.{relates_to}
use Rattle.at_model.specs.Leaves.{leaf_votes, leaf_records_vote, leaf_commit, leaf_roll_back, leaf_act, leaf_notice, answers_leaf, leaf_registered, drops_leaf, leaf_fault, on_leaf}
use Rattle.at_model.specs.Activities.{is_begun, told, activity_target, activity_act, activity_notice, with_context, activity_created, activity_registered, activity_fault, on_activity, activity_state, on_ask, on_complete}
use Rattle.at_model.specs.Due.{Reached, Expired, Over, Unanswered, Nothing, leaf_reached, activity_reached}
use Rattle.std.specs.List.{AllByRecursion}
use Rattle.std.proofs.Common.{sym, subst}
use Rattle.at_base.specs.declared.event.Event.{Event}
use Rattle.at_base.specs.declared.outs.Effect.{Effect}
use Rattle.at_base.specs.declared.outs.Effect.TheVariants as effects
use Rattle.at_model.specs.Book.{Book}
use Rattle.at_model.specs.Leaves.{leaf_aborts, leaf_refused}
use Rattle.at_model.specs.Moves.{Change}
use Rattle.at_model.specs.Step.{moment_of}
use Rattle.model_laws.specs.Shapes.{MovesLeaf, MovesActivity, at_leaf, leaf_when_due, at_activity, activity_when_due, works, completes}
use Rattle.model_laws.proofs.DecisionLaws.{DecisionSays, either_says, either_left}

abbrev pub IsOther : Effect → Type 0
IsOther (effects.Root id what) = ⊥
IsOther other = Unit {0}

abbrev pub Tells : {A : Type 0} → Change A → Type 0
Tells c = AllByRecursion IsOther c.effects

abbrev pub Anything : {A : Type 0} → Record → Change A → Type 0
Anything r c = Unit {0}

abbrev pub Other : {A : Type 0} → Decision A → Type 0
Other d = DecisionSays Tells Anything d

-- leaves
either_leaf : (b : Bool) (d e : Decision Leaf) → Other d → Other e → Other (if b then d else e)
either_leaf b d e h k = either_says Tells Anything b d e (λ x. h) (λ x. k)

records_vote_other : (m : Moment) (coordinator : Option Epr) (l : Leaf) → Other (leaf_records_vote m coordinator l)
records_vote_other m None l = (tt, tt)
records_vote_other m (Some coordinator) l = record { entry = tt; landed = tt; otherwise = (tt, tt) }

votes_other : (m : Moment) (from : Option Epr) (l : Leaf) (kind : Kind) (vote : Vote) → Other (leaf_votes m from l kind vote)
unfolding leaf_votes
votes_other m from l kinds.Durable votes.Prepared = records_vote_other m l.coordinator l
votes_other m from l kinds.Volatile votes.Prepared = tt
votes_other m from l kind votes.ReadOnly = tt
votes_other m from l kind votes.Aborted = (tt, tt)

leaf_commit_other : (m : Moment) (from : Option Epr) (l : Leaf) (kind : Kind) → Other (leaf_commit m from l kind)
unfolding leaf_commit
leaf_commit_other m from l kinds.Durable = record { entry = tt; landed = (tt, tt); otherwise = tt }
leaf_commit_other m from l kinds.Volatile = (tt, tt)

leaf_roll_back_other : (m : Moment) (from : Option Epr) (l : Leaf) (kind : Kind) → Other (leaf_roll_back m from l kind)
unfolding leaf_roll_back
leaf_roll_back_other m from l kinds.Durable = record { entry = tt; landed = (tt, tt); otherwise = tt }
leaf_roll_back_other m from l kinds.Volatile = (tt, tt)

leaf_act_other : (m : Moment) (from : Option Epr) (i : Option (List ℕ)) (l : Leaf) (act : Act) → Other (leaf_act m from i l act)
unfolding leaf_act
leaf_act_other m from i l acts.Gather = votes_other m from l l.kind l.vote
leaf_act_other m from i l acts.SendPrepared = tt
leaf_act_other m from i l acts.Commit = leaf_commit_other m from l l.kind
leaf_act_other m from i l acts.AbortAndSendAborted = (tt, tt)
leaf_act_other m from i l acts.RecordAndSendAborted = leaf_roll_back_other m from l l.kind
leaf_act_other m from i l acts.FaultInvalidState = tt
leaf_act_other m from i l acts.FaultInvalidStateAndAbort = (tt, tt)
leaf_act_other m from i l other = tt

leaf_notice_other : (m : Moment) (from : Option Epr) (i : Option (List ℕ)) (l : Leaf) (c : Option Cell) → Other (leaf_notice m from i l c)
unfolding leaf_notice
leaf_notice_other m from i l None = tt
leaf_notice_other m from i l (Some c) = leaf_act_other m from i l c.act

leaf_registered_other : (m : Moment) (relates : Option (List ℕ)) (coordinator : Epr) (l : Leaf) → Other (leaf_registered m relates coordinator l)
unfolding leaf_registered
leaf_registered_other m relates coordinator l = either_leaf (answers_leaf m relates l) _ (ignored l) tt tt

leaf_fault_other : (m : Moment) (relates : Option (List ℕ)) (name : List ℕ) (l : Leaf) → Other (leaf_fault m relates name l)
unfolding leaf_fault
leaf_fault_other m relates name l =
    either_leaf (answers_leaf m relates l) (Goes (leaf_refused l)) _ (tt, tt) (either_leaf (drops_leaf l name) (Goes (forgotten (begin l))) (ignored l) tt tt)

leaf_other : (m : Moment) (a : Arrived) (l : Leaf) (x : Message) → Other (on_leaf m a l x)
unfolding on_leaf
leaf_other m a l (messages.Notice n) = leaf_notice_other m a.from a.id l (participant_of l.kind l.state n)
leaf_other m a l (messages.RegisterResponse coordinator) = leaf_registered_other m a.relates coordinator l
leaf_other m a l (messages.Fault name) = leaf_fault_other m a.relates name l
leaf_other m a l other = tt

leaf_due_other : (m : Moment) (l : Leaf) (reached : Reached) → Other (leaf_reached m l reached)
unfolding leaf_reached
leaf_due_other m l Expired = either_left Tells (is_state l.state states.Registering) (leaf_refused l) (leaf_aborts m None l) (tt, tt) (tt, tt)
leaf_due_other m l Over = tt
leaf_due_other m l Unanswered = tt
leaf_due_other m l Nothing = tt

pub leaf_moved_other : (b : Book) (e : Event) (now : ℕ) (l : Leaf) (d : Decision Leaf) → MovesLeaf b e now l d → Other d
leaf_moved_other b e now l d (at_leaf a came why is) = subst Other (sym is) (leaf_other (moment_of b now) a l a.message)
leaf_moved_other b e now l d (leaf_when_due came is) = subst Other (sym is) (leaf_due_other (moment_of b now) l _)

-- activities
or_ignored : (a : Activity) (b : Bool) (d : Decision Activity) → Other d → Other (if b then d else ignored a)
or_ignored a b d h = either_says Tells Anything b d (ignored a) (λ x. h) (λ x. tt)

activity_act_other : (m : Moment) (from : Option Epr) (i : Option (List ℕ)) (a : Activity) (act : Act) → Other (activity_act m from i a act)
unfolding activity_act
activity_act_other m from i a acts.TellCommitted = (tt, tt)
activity_act_other m from i a acts.TellAborted = (tt, tt)
activity_act_other m from i a acts.FaultInvalidState = tt
activity_act_other m from i a other = tt

activity_notice_other : (m : Moment) (from : Option Epr) (i : Option (List ℕ)) (a : Activity) (c : Option Cell) → Other (activity_notice m from i a c)
unfolding activity_notice
activity_notice_other m from i a None = tt
activity_notice_other m from i a (Some c) = activity_act_other m from i a c.act

with_context_other : (m : Moment) (context : Context) (a : Activity) → Other (with_context m context a)
with_context_other m context a = either_says Tells Anything (is_begun a) _ _ (λ e. tt) (λ e. tt)

activity_created_other : (m : Moment) (relates : Option (List ℕ)) (context : Context) (a : Activity) (p : Progress) → Other (activity_created m relates context a p)
unfolding activity_created
activity_created_other m relates context a Progress.Creating = or_ignored a _ (with_context m context a) (with_context_other m context a)
activity_created_other m relates context a other = tt

activity_registered_other : (m : Moment) (relates : Option (List ℕ)) (coordinator : Epr) (a : Activity) (p : Progress) → Other (activity_registered m relates coordinator a p)
unfolding activity_registered
activity_registered_other m relates coordinator a Progress.Registering =
    or_ignored a (relates_to relates (register_id m.base (activity_target a)))
    (Goes (stays (begin (record a { progress = Progress.Active; coordinator = Some coordinator })))) tt
activity_registered_other m relates coordinator a other = tt

activity_fault_other : (m : Moment) (relates : Option (List ℕ)) (name : List ℕ) (a : Activity) (p : Progress) → Other (activity_fault m relates name a p)
unfolding activity_fault
activity_fault_other m relates name a Progress.Creating = or_ignored a _ (told tellings.Refused a) (tt, tt)
activity_fault_other m relates name a Progress.Registering = or_ignored a _ (told tellings.Refused a) (tt, tt)
activity_fault_other m relates name a Progress.Active = tt
activity_fault_other m relates name a (Progress.Completing n) = or_ignored a _ (told tellings.Unknown a) (tt, tt)

activity_other : (m : Moment) (r : Arrived) (a : Activity) (x : Message) → Other (on_activity m r a x)
unfolding on_activity
activity_other m r a (messages.Notice n) = activity_notice_other m r.from r.id a (initiator_of (activity_state a.progress) n)
activity_other m r a (messages.CreateResponse context) = activity_created_other m r.relates context a a.progress
activity_other m r a (messages.RegisterResponse coordinator) = activity_registered_other m r.relates coordinator a a.progress
activity_other m r a (messages.Fault name) = activity_fault_other m r.relates name a a.progress
activity_other m r a other = tt

activity_due_other : (m : Moment) (a : Activity) (reached : Reached) → Other (activity_reached m a reached)
unfolding activity_reached
activity_due_other m a Expired = (tt, tt)
activity_due_other m a Over = tt
activity_due_other m a Unanswered = tt
activity_due_other m a Nothing = tt

asks_other : (m : Moment) (url : List ℕ) (kind : Kind) (vote : Vote) (key value : List ℕ) (a : Activity) (context : Option Context)
    → Other (Goes (on_ask m url kind vote key value a context))
unfolding on_ask
asks_other m url kind vote key value a None = tt
asks_other m url kind vote key value a (Some context) = tt

completes_other : (m : Moment) (n : Notice) (a : Activity) → Other (Goes (on_complete m n a))
unfolding on_complete
completes_other m n a = tt

pub activity_moved_other : (b : Book) (e : Event) (now : ℕ) (a : Activity) (d : Decision Activity) → MovesActivity b e now a d → Other d
activity_moved_other b e now a d (at_activity r came why is) = subst Other (sym is) (activity_other (moment_of b now) r a r.message)
activity_moved_other b e now a d (activity_when_due came is) = subst Other (sym is) (activity_due_other (moment_of b now) a _)
activity_moved_other b e now a d (works url kind vote key value came is) = subst Other (sym is) (asks_other (moment_of b now) url kind vote key value a a.context)
activity_moved_other b e now a d (completes n l came why is) = subst Other (sym is) (completes_other (moment_of b now) n a)
