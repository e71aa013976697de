-- What a message, a request or a due time makes a leaf or an activity post goes to some endpoint.
use Rattle.std.specs.Prelude.{ℕ, List, [], Option, Some, None, if◌then◌else◌, bytes_eq, refl}
use Rattle.at_base.specs.Names.{fault_name}
use Rattle.at_base.specs.declared.epr.Epr.{Epr}
use Rattle.at_base.specs.declared.event.Arrived.{Arrived}
use Rattle.at_base.specs.declared.event.Moment.{Moment}
use Rattle.at_base.specs.declared.fault.Fault.TheVariants.{InvalidState, UnknownTransaction}
use Rattle.at_base.specs.declared.message.Context.{Context}
use Rattle.at_base.specs.declared.message.Message.{Message}
use Rattle.at_base.specs.declared.message.Message.TheVariants as messages
use Rattle.at_base.specs.declared.notice.Kind.{Kind}
use Rattle.at_base.specs.declared.notice.Kind.TheVariants as kinds
use Rattle.at_base.specs.declared.notice.Notice.{Notice}
use Rattle.at_base.specs.declared.notice.Notice.TheVariants as notices
use Rattle.at_base.specs.declared.notice.Vote.{Vote}
use Rattle.at_base.specs.declared.notice.Vote.TheVariants as votes
use Rattle.at_base.specs.declared.outs.Post.{Post}
use Rattle.at_base.specs.declared.outs.Told.TheVariants as tellings
use Rattle.at_tables.specs.declared.cells.Act.{Act}
use Rattle.at_tables.specs.declared.cells.Act.TheVariants as acts
use Rattle.at_tables.specs.declared.cells.Cell.{Cell}
use Rattle.at_tables.specs.declared.cells.State.TheVariants as states
use Rattle.at_tables.specs.Names.{is_state}
use Rattle.at_tables.specs.Tables.{initiator_of, participant_of}
use Rattle.endpoints.specs.Addresses.{create_id, register_id}
use Rattle.at_model.specs.Activities.{activity_act, activity_created, activity_fault, activity_notice, activity_registered, activity_state, activity_target, complete_posts, is_begun, on_activity, on_ask, on_complete, told, with_context}
use Rattle.at_model.specs.Arrivals.{relates_to}
use Rattle.at_model.specs.Book.{Activity, Leaf, Progress, WorkRequest}
use Rattle.at_model.specs.Due.{Expired, Nothing, Over, Reached, Unanswered, activity_again, activity_reached, completion_register_again, leaf_again, leaf_reached, leaf_register_again}
use Rattle.at_model.specs.Leaves.{answers_leaf, drops_leaf, leaf_aborts, leaf_act, leaf_commit, leaf_fault, leaf_faults, leaf_notice, leaf_records_vote, leaf_refused, leaf_registered, leaf_roll_back, leaf_says, leaf_target, leaf_votes, on_leaf, work_answer}
use Rattle.at_model.specs.Moves.{Goes, ignored}
use Rattle.at_model.specs.Posts.{fault_post, notice_post, stored_or}
use Rattle.model_laws.proofs.DecisionLaws.{either_left}
use Rattle.addressed_posts.proofs.Directed.{AreDirected, Decides, Directs, choice, either, to_one}

-- leaves
says_directed : (m : Moment) (from : Option Epr) (n : Notice) (l : Leaf) → AreDirected (leaf_says m from n l)
says_directed m from n l = to_one (stored_or l.coordinator from) (λ to. notice_post m.base (leaf_target l) to n) (λ to. (to, refl))

faults_directed : (from : Option Epr) (id : Option (List ℕ)) (l : Leaf) → AreDirected (leaf_faults from id l)
faults_directed from id l = to_one (stored_or l.coordinator from) (λ to. fault_post (Some to) id InvalidState) (λ to. (to, refl))

answer_directed : (answer : Message) (r : Option WorkRequest) → AreDirected (work_answer answer r)
answer_directed answer None = tt
answer_directed answer (Some r) = ((r.reply, refl), tt)

records_vote_decides : (m : Moment) (coordinator : Option Epr) (l : Leaf) → Decides (leaf_records_vote m coordinator l)
records_vote_decides m None l = says_directed m None notices.Aborted l
records_vote_decides m (Some coordinator) l =
    record { entry = tt; landed = says_directed m None notices.Prepared l; otherwise = says_directed m None notices.Aborted l }

votes_decide : (m : Moment) (from : Option Epr) (l : Leaf) (kind : Kind) (vote : Vote) → Decides (leaf_votes m from l kind vote)
unfolding leaf_votes
votes_decide m from l kinds.Durable votes.Prepared = records_vote_decides m l.coordinator l
votes_decide m from l kinds.Volatile votes.Prepared = says_directed m None notices.Prepared l
votes_decide m from l kind votes.ReadOnly = says_directed m from notices.ReadOnly l
votes_decide m from l kind votes.Aborted = says_directed m from notices.Aborted l

commit_decides : (m : Moment) (from : Option Epr) (l : Leaf) (kind : Kind) → Decides (leaf_commit m from l kind)
unfolding leaf_commit
commit_decides m from l kinds.Durable = record { entry = tt; landed = says_directed m from notices.Committed l; otherwise = tt }
commit_decides m from l kinds.Volatile = says_directed m from notices.Committed l

roll_back_decides : (m : Moment) (from : Option Epr) (l : Leaf) (kind : Kind) → Decides (leaf_roll_back m from l kind)
unfolding leaf_roll_back
roll_back_decides m from l kinds.Durable = record { entry = tt; landed = says_directed m from notices.Aborted l; otherwise = tt }
roll_back_decides m from l kinds.Volatile = says_directed m from notices.Aborted l

leaf_act_decides : (m : Moment) (from : Option Epr) (id : Option (List ℕ)) (l : Leaf) (act : Act) → Decides (leaf_act m from id l act)
unfolding leaf_act
leaf_act_decides m from id l acts.Gather = votes_decide m from l l.kind l.vote
leaf_act_decides m from id l acts.SendPrepared = says_directed m from notices.Prepared l
leaf_act_decides m from id l acts.Commit = commit_decides m from l l.kind
leaf_act_decides m from id l acts.AbortAndSendAborted = says_directed m from notices.Aborted l
leaf_act_decides m from id l acts.RecordAndSendAborted = roll_back_decides m from l l.kind
leaf_act_decides m from id l acts.FaultInvalidState = faults_directed from id l
leaf_act_decides m from id l acts.FaultInvalidStateAndAbort = faults_directed from id l
leaf_act_decides m from id l other = tt

leaf_notice_decides : (m : Moment) (from : Option Epr) (id : Option (List ℕ)) (l : Leaf) (c : Option Cell) → Decides (leaf_notice m from id l c)
unfolding leaf_notice
leaf_notice_decides m from id l None = tt
leaf_notice_decides m from id l (Some c) = leaf_act_decides m from id l c.act

leaf_registered_decides : (m : Moment) (relates : Option (List ℕ)) (coordinator : Epr) (l : Leaf) → Decides (leaf_registered m relates coordinator l)
unfolding leaf_registered
leaf_registered_decides m relates coordinator l = either (answers_leaf m relates l) _ (ignored l) (answer_directed messages.WorkDone l.request) tt

leaf_fault_decides : (m : Moment) (relates : Option (List ℕ)) (name : List ℕ) (l : Leaf) → Decides (leaf_fault m relates name l)
unfolding leaf_fault
leaf_fault_decides m relates name l =
    either (answers_leaf m relates l) (Goes (leaf_refused l)) _ (answer_directed messages.WorkRefused l.request) (either (drops_leaf l name) _ (ignored l) tt tt)

pub leaf_decides : (m : Moment) (a : Arrived) (l : Leaf) (x : Message) → Decides (on_leaf m a l x)
unfolding on_leaf
leaf_decides m a l (messages.Notice n) = leaf_notice_decides m a.from a.id l (participant_of l.kind l.state n)
leaf_decides m a l (messages.RegisterResponse coordinator) = leaf_registered_decides m a.relates coordinator l
leaf_decides m a l (messages.Fault name) = leaf_fault_decides m a.relates name l
leaf_decides m a l other = tt

leaf_register_directed : (m : Moment) (l : Leaf) (r : Option WorkRequest) → AreDirected (leaf_register_again m l r)
leaf_register_directed m l None = tt
leaf_register_directed m l (Some r) = ((r.registration, refl), tt)

leaf_again_directed : (m : Moment) (l : Leaf) → AreDirected (leaf_again m l)
leaf_again_directed m l =
    let prepares : List Post = leaf_says m None notices.Prepared l in
    choice (is_state l.state states.Registering) (leaf_register_again m l l.request) (if is_state l.state states.PreparedSuccess then prepares else [])
    (leaf_register_directed m l l.request) (choice (is_state l.state states.PreparedSuccess) prepares [] (says_directed m None notices.Prepared l) tt)

pub leaf_due_decides : (m : Moment) (l : Leaf) (r : Reached) → Decides (leaf_reached m l r)
unfolding leaf_reached
leaf_due_decides m l Expired =
    either_left Directs (is_state l.state states.Registering) (leaf_refused l) (leaf_aborts m None l) (answer_directed messages.WorkRefused l.request)
    (says_directed m None notices.Aborted l)
leaf_due_decides m l Over = tt
leaf_due_decides m l Unanswered = leaf_again_directed m l
leaf_due_decides m l Nothing = tt

-- activities
activity_act_decides : (m : Moment) (from : Option Epr) (id : Option (List ℕ)) (a : Activity) (act : Act) → Decides (activity_act m from id a act)
unfolding activity_act
activity_act_decides m from id a acts.TellCommitted = tt
activity_act_decides m from id a acts.TellAborted = tt
activity_act_decides m from id a acts.FaultInvalidState = to_one (stored_or a.coordinator from) (λ to. fault_post (Some to) id InvalidState) (λ to. (to, refl))
activity_act_decides m from id a other = tt

activity_notice_decides : (m : Moment) (from : Option Epr) (id : Option (List ℕ)) (a : Activity) (c : Option Cell) → Decides (activity_notice m from id a c)
unfolding activity_notice
activity_notice_decides m from id a None = tt
activity_notice_decides m from id a (Some c) = activity_act_decides m from id a c.act

activity_created_decides : (m : Moment) (relates : Option (List ℕ)) (context : Context) (a : Activity) (p : Progress) → Decides (activity_created m relates context a p)
unfolding activity_created
activity_created_decides m relates context a Progress.Creating =
    either (relates_to relates (create_id m.base (activity_target a))) (with_context m context a) (ignored a) (either (is_begun a) _ _ ((context.registration, refl), tt) tt) tt
activity_created_decides m relates context a other = tt

activity_registered_decides : (m : Moment) (relates : Option (List ℕ)) (coordinator : Epr) (a : Activity) (p : Progress) → Decides (activity_registered m relates coordinator a p)
unfolding activity_registered
activity_registered_decides m relates coordinator a Progress.Registering = either (relates_to relates (register_id m.base (activity_target a))) _ (ignored a) tt tt
activity_registered_decides m relates coordinator a other = tt

activity_fault_decides : (m : Moment) (relates : Option (List ℕ)) (name : List ℕ) (a : Activity) (p : Progress) → Decides (activity_fault m relates name a p)
unfolding activity_fault
activity_fault_decides m relates name a Progress.Creating = either (relates_to relates (create_id m.base (activity_target a))) (told tellings.Refused a) (ignored a) tt tt
activity_fault_decides m relates name a Progress.Registering = either (relates_to relates (register_id m.base (activity_target a))) (told tellings.Refused a) (ignored a) tt tt
activity_fault_decides m relates name a Progress.Active = tt
activity_fault_decides m relates name a (Progress.Completing n) = either (bytes_eq name (fault_name UnknownTransaction)) (told tellings.Unknown a) (ignored a) tt tt

pub activity_decides : (m : Moment) (r : Arrived) (a : Activity) (x : Message) → Decides (on_activity m r a x)
unfolding on_activity
activity_decides m r a (messages.Notice n) = activity_notice_decides m r.from r.id a (initiator_of (activity_state a.progress) n)
activity_decides m r a (messages.CreateResponse context) = activity_created_decides m r.relates context a a.progress
activity_decides m r a (messages.RegisterResponse coordinator) = activity_registered_decides m r.relates coordinator a a.progress
activity_decides m r a (messages.Fault name) = activity_fault_decides m r.relates name a a.progress
activity_decides m r a other = tt

complete_posts_directed : (base : List ℕ) (n : Notice) (a : Activity) → AreDirected (complete_posts base n a)
complete_posts_directed base n a = to_one a.coordinator (λ to. notice_post base (activity_target a) to n) (λ to. (to, refl))

completion_register_directed : (base : List ℕ) (a : Activity) (context : Option Context) → AreDirected (completion_register_again base a context)
completion_register_directed base a None = tt
completion_register_directed base a (Some context) = ((context.registration, refl), tt)

activity_again_directed : (base : List ℕ) (a : Activity) (p : Progress) → AreDirected (activity_again base a p)
activity_again_directed base a Progress.Creating = tt
activity_again_directed base a Progress.Registering = completion_register_directed base a a.context
activity_again_directed base a Progress.Active = tt
activity_again_directed base a (Progress.Completing n) = complete_posts_directed base n a

pub activity_due_decides : (m : Moment) (a : Activity) (r : Reached) → Decides (activity_reached m a r)
unfolding activity_reached
activity_due_decides m a Expired = tt
activity_due_decides m a Over = tt
activity_due_decides m a Unanswered = activity_again_directed m.base a a.progress
activity_due_decides m a Nothing = tt

pub ask_directs : (m : Moment) (url : List ℕ) (kind : Kind) (vote : Vote) (key value : List ℕ) (a : Activity) (context : Option Context)
    → Directs (on_ask m url kind vote key value a context)
unfolding on_ask
ask_directs m url kind vote key value a None = tt
ask_directs m url kind vote key value a (Some context) = ((_, refl), tt)

pub complete_directs : (m : Moment) (n : Notice) (a : Activity) → Directs (on_complete m n a)
unfolding on_complete
complete_directs m n a = complete_posts_directed m.base n a
