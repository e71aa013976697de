-- Each rule of leaves is one of the deeds.
use Rattle.std.specs.Prelude.{ℕ, List, Option, Some, None, Bool, true, false, ◌≡◌, refl, ◌&&◌, if◌then◌else◌, bytes_eq}
use Rattle.std.proofs.Common.{inl, inr, sym, subst, ap, ◌∙◌}
use Rattle.std.proofs.lemmas.Slice.Eq.{bytes_eq-Decides}
use Rattle.at_base.specs.declared.fault.Fault.TheVariants.{UnknownTransaction}
use Rattle.at_base.specs.Names.{fault_name, is_kind}
use Rattle.at_base.specs.declared.epr.Epr.{Epr}
use Rattle.at_base.specs.declared.notice.Kind.{Kind}
use Rattle.at_base.specs.declared.notice.Kind.TheVariants as kinds
use Rattle.at_base.specs.declared.notice.Vote.{Vote}
use Rattle.at_base.specs.declared.notice.Vote.TheVariants as votes
use Rattle.at_base.specs.declared.notice.Notice.{Notice}
use Rattle.at_base.specs.declared.notice.Notice.TheVariants as notices
use Rattle.at_base.specs.declared.message.Message.{Message}
use Rattle.at_base.specs.declared.message.Message.TheVariants as messages
use Rattle.at_base.specs.declared.event.Arrived.{Arrived}
use Rattle.at_base.specs.declared.event.Item.TheVariants as items
use Rattle.at_base.specs.declared.event.Event.{Event}
use Rattle.at_base.specs.declared.event.Event.TheVariants as events
use Rattle.at_base.specs.declared.event.Moment.{Moment}
use Rattle.at_base.specs.declared.record.Record.TheVariants as records
use Rattle.at_tables.specs.declared.cells.State.TheVariants as states
use Rattle.at_tables.specs.Tables.{participant_of}
use Rattle.at_model.specs.Book.{Book, Leaf, WorkRequest}
use Rattle.at_model.specs.Moves.{Decision, Goes, begin, forgotten, ignored}
use Rattle.at_model.specs.Leaves.{leaf_target, leaf_votes, leaf_commit, leaf_roll_back, leaf_act, leaf_notice, answers_leaf, leaf_registered, drops_leaf, leaf_fault, on_leaf}
use Rattle.at_model.specs.Due.{Expired, Unanswered, Nothing, has_come, is_quiet, leaf_due, leaf_reached}
use Rattle.at_model.specs.Step.{at_time, moment_of, put_leaf}
use Rattle.model_laws.specs.Shapes.{MovesLeaf, at_leaf, leaf_when_due}
use Rattle.model_laws.proofs.DecisionLaws.{first_true, second_true, same_kind}
use Rattle.agreement.specs.Branches.{InBranches}
use Rattle.agreement.specs.LeafDeeds.{LeafStands, registers, works, waits, CameTo, Notified, for_durable, rests, registered, registers_again, votes_again, asked, misled, unprepared, refused, expired, gave_up, LeafDeed, idles, aborts, prepares, leaves, dropped, commits, rolls_back, LeafWaitsOn, LeavesDo}
use Rattle.agreement.proofs.Branches.{became}
use Rattle.agreement.proofs.LeafPosts.{deed_says}

abbrev pub Does : Moment → Event → Leaf → Decision Leaf → Type 0
Does m e l d = InBranches (LeafDeed m e l) (LeafWaitsOn l) d

-- a leaf as it stands
abbrev pub registering : Leaf → WorkRequest → Leaf
registering l r = record l { state = states.Registering; coordinator = None; request = Some r }

abbrev pub working : Leaf → Epr → Leaf
working l to = record l { state = states.Active; coordinator = Some to; request = None }

abbrev pub waiting : Leaf → Epr → Leaf
waiting l to = record l { state = states.PreparedSuccess; coordinator = Some to; request = None; vote = votes.Prepared }

is_registering : (l : Leaf) (r : WorkRequest) → l.state ≡ states.Registering → l.coordinator ≡ None → l.request ≡ Some r → l ≡ registering l r
is_registering l r e f g i = record l { state = e i; coordinator = f i; request = g i }

is_working : (l : Leaf) (to : Epr) → l.state ≡ states.Active → l.coordinator ≡ Some to → l.request ≡ None → l ≡ working l to
is_working l to e f g i = record l { state = e i; coordinator = f i; request = g i }

is_waiting : (l : Leaf) (to : Epr) → l.state ≡ states.PreparedSuccess → l.coordinator ≡ Some to → l.request ≡ None → l.vote ≡ votes.Prepared → l ≡ waiting l to
is_waiting l to e f g h i = record l { state = e i; coordinator = f i; request = g i; vote = h i }

idle : (m : Moment) (e : Event) (l : Leaf) → Does m e l (ignored l)
idle m e l = idles l (rests refl refl) refl refl refl

abbrev came_to : (e : Event) (a : Arrived) (l : Leaf) (x : Message) → e ≡ events.Arrived a → a.target ≡ leaf_target l → a.message ≡ x → CameTo e l x
came_to e a l x f g h = record { arrived = a; event = f; target = g; message = h }

-- notifications
registering_notice : (m : Moment) (e : Event) (a : Arrived) (l : Leaf) (r : WorkRequest) (n : Notice) → e ≡ events.Arrived a → a.target ≡ leaf_target l → a.message ≡ messages.Notice n
    → Does m e (registering l r) (leaf_notice m a.from a.id (registering l r) (participant_of l.kind states.Registering n))
unfolding leaf_notice leaf_act
registering_notice m e a l r notices.Prepare f g h = idle m e (registering l r)
registering_notice m e a l r notices.Commit f g h = aborts (inl refl) (misled (came_to e a (registering l r) _ f g h) refl) refl refl refl
registering_notice m e a l r notices.Rollback f g h = aborts (inl refl) (asked (came_to e a (registering l r) _ f g h) refl) refl refl refl
registering_notice m e a l r notices.Prepared f g h = idle m e (registering l r)
registering_notice m e a l r notices.ReadOnly f g h = idle m e (registering l r)
registering_notice m e a l r notices.Aborted f g h = idle m e (registering l r)
registering_notice m e a l r notices.Committed f g h = idle m e (registering l r)

votes_do : (m : Moment) (e : Event) (from : Option Epr) (l : Leaf) (to : Epr) (kind : Kind) (vote : Vote) → Notified e l notices.Prepare → l.kind ≡ kind → l.vote ≡ vote
    → Does m e (working l to) (leaf_votes m from (working l to) kind vote)
unfolding leaf_votes
votes_do m e from l to kinds.Durable votes.Prepared came k v = (
  prepares to (came_to e came.arrived (working l to) _ came.event came.target came.message) refl v refl (ap (λ x. for_durable x (records.LeafPrepared l.id to l.key l.value)) (sym k)) refl refl refl,
  aborts (inr refl) (unprepared to (came_to e came.arrived (working l to) _ came.event came.target came.message) refl (inr (v, k)) refl refl) refl refl refl,
)
votes_do m e from l to kinds.Volatile votes.Prepared came k v =
    prepares to (came_to e came.arrived (working l to) _ came.event came.target came.message) refl v refl (ap (λ x. for_durable x (records.LeafPrepared l.id to l.key l.value)) (sym k)) refl refl refl
votes_do m e from l to kind votes.ReadOnly came k v = leaves to (came_to e came.arrived (working l to) _ came.event came.target came.message) refl v refl refl refl refl refl
votes_do m e from l to kind votes.Aborted came k v =
    aborts (inr refl) (unprepared to (came_to e came.arrived (working l to) _ came.event came.target came.message) refl (inl v) refl refl) refl refl refl

working_notice : (m : Moment) (e : Event) (a : Arrived) (l : Leaf) (to : Epr) (n : Notice) → e ≡ events.Arrived a → a.target ≡ leaf_target l → a.message ≡ messages.Notice n
    → Does m e (working l to) (leaf_notice m a.from a.id (working l to) (participant_of l.kind states.Active n))
unfolding leaf_notice leaf_act
working_notice m e a l to notices.Prepare f g h = votes_do m e a.from l to l.kind l.vote (came_to e a l _ f g h) refl refl
working_notice m e a l to notices.Commit f g h = aborts (inr refl) (misled (came_to e a (working l to) _ f g h) refl) refl refl refl
working_notice m e a l to notices.Rollback f g h = aborts (inr refl) (asked (came_to e a (working l to) _ f g h) refl) refl refl refl
working_notice m e a l to notices.Prepared f g h = idle m e (working l to)
working_notice m e a l to notices.ReadOnly f g h = idle m e (working l to)
working_notice m e a l to notices.Aborted f g h = idle m e (working l to)
working_notice m e a l to notices.Committed f g h = idle m e (working l to)

commit_does : (m : Moment) (e : Event) (from : Option Epr) (l : Leaf) (to : Epr) (kind : Kind) → Notified e (waiting l to) notices.Commit → l.kind ≡ kind
    → Does m e (waiting l to) (leaf_commit m from (waiting l to) kind)
unfolding leaf_commit
commit_does m e from l to kinds.Durable came k = (commits to came refl refl (ap (λ x. for_durable x (records.LeafCommitted l.id)) (sym k)) refl refl refl, inl refl)
commit_does m e from l to kinds.Volatile came k = commits to came refl refl (ap (λ x. for_durable x (records.LeafCommitted l.id)) (sym k)) refl refl refl

roll_back_does : (m : Moment) (e : Event) (from : Option Epr) (l : Leaf) (to : Epr) (kind : Kind) → Notified e (waiting l to) notices.Rollback → l.kind ≡ kind
    → Does m e (waiting l to) (leaf_roll_back m from (waiting l to) kind)
unfolding leaf_roll_back
roll_back_does m e from l to kinds.Durable came k = (rolls_back to came refl refl (ap (λ x. for_durable x (records.LeafAborted l.id)) (sym k)) refl refl refl, inr refl)
roll_back_does m e from l to kinds.Volatile came k = rolls_back to came refl refl (ap (λ x. for_durable x (records.LeafAborted l.id)) (sym k)) refl refl refl

waiting_notice : (m : Moment) (e : Event) (a : Arrived) (l : Leaf) (to : Epr) (n : Notice) → e ≡ events.Arrived a → a.target ≡ leaf_target l → a.message ≡ messages.Notice n
    → Does m e (waiting l to) (leaf_notice m a.from a.id (waiting l to) (participant_of l.kind states.PreparedSuccess n))
unfolding leaf_notice leaf_act
waiting_notice m e a l to notices.Prepare f g h =
    idles (record (waiting l to) { sent = Some m.now }) (votes_again to (inr (came_to e a (waiting l to) _ f g h)) refl refl refl refl) refl refl refl
waiting_notice m e a l to notices.Commit f g h = commit_does m e a.from l to l.kind (came_to e a (waiting l to) _ f g h) refl
waiting_notice m e a l to notices.Rollback f g h = roll_back_does m e a.from l to l.kind (came_to e a (waiting l to) _ f g h) refl
waiting_notice m e a l to notices.Prepared f g h = idle m e (waiting l to)
waiting_notice m e a l to notices.ReadOnly f g h = idle m e (waiting l to)
waiting_notice m e a l to notices.Aborted f g h = idle m e (waiting l to)
waiting_notice m e a l to notices.Committed f g h = idle m e (waiting l to)

-- both sides of a test
either : (m : Moment) (e : Event) (l : Leaf) (b : Bool) (d x : Decision Leaf) → (b ≡ true → Does m e l d) → (b ≡ false → Does m e l x) → Does m e l (if b then d else x)
either m e l true d x h k = h refl
either m e l false d x h k = k refl

-- faults
same_name : (e : Event) (l : Leaf) (name : List ℕ) → bytes_eq name (fault_name UnknownTransaction) ≡ true → CameTo e l (messages.Fault name) → CameTo e l (messages.Fault (fault_name UnknownTransaction))
same_name e l name f came = subst (λ x. CameTo e l (messages.Fault x)) ((bytes_eq-Decides name (fault_name UnknownTransaction)).0 f) came

else_dropped : (m : Moment) (e : Event) (l : Leaf) (name : List ℕ) → CameTo e l (messages.Fault name) → Does m e l (if drops_leaf l name then Goes (forgotten (begin l)) else ignored l)
else_dropped m e l name came =
    either m e l (drops_leaf l name) (Goes (forgotten (begin l))) (ignored l)
    (λ f. dropped (same_name e l name (second_true (is_kind l.kind kinds.Volatile) _ f) came) (same_kind l.kind kinds.Volatile (first_true _ (bytes_eq name (fault_name UnknownTransaction)) f)) refl refl refl refl)
    (λ f. idle m e l)

registering_fault : (m : Moment) (e : Event) (a : Arrived) (l : Leaf) (r : WorkRequest) (name : List ℕ) → (came : CameTo e (registering l r) (messages.Fault name)) → came.arrived ≡ a
    → Does m e (registering l r) (leaf_fault m a.relates name (registering l r))
unfolding leaf_fault
registering_fault m e a l r name came same =
    either m e (registering l r) (answers_leaf m a.relates (registering l r)) _ _
    (λ f. aborts (inl refl) (refused name r came (ap (λ (x : Arrived). answers_leaf m x.relates (registering l r)) same ∙ f) refl refl refl) refl refl refl)
    (λ f. else_dropped m e (registering l r) name came)

working_fault : (m : Moment) (e : Event) (relates : Option (List ℕ)) (l : Leaf) (to : Epr) (name : List ℕ) → CameTo e (working l to) (messages.Fault name)
    → Does m e (working l to) (leaf_fault m relates name (working l to))
unfolding leaf_fault
working_fault m e relates l to name came = else_dropped m e (working l to) name came

waiting_fault : (m : Moment) (e : Event) (relates : Option (List ℕ)) (l : Leaf) (to : Epr) (name : List ℕ) → CameTo e (waiting l to) (messages.Fault name)
    → Does m e (waiting l to) (leaf_fault m relates name (waiting l to))
unfolding leaf_fault
waiting_fault m e relates l to name came = else_dropped m e (waiting l to) name came

-- messages
registering_message : (m : Moment) (e : Event) (a : Arrived) (l : Leaf) (r : WorkRequest) (x : Message) → e ≡ events.Arrived a → a.target ≡ leaf_target l → a.message ≡ x
    → Does m e (registering l r) (on_leaf m a (registering l r) x)
unfolding on_leaf leaf_registered
registering_message m e a l r (messages.Notice n) f g h = registering_notice m e a l r n f g h
registering_message m e a l r (messages.RegisterResponse to) f g h =
    either m e (registering l r) (answers_leaf m a.relates (registering l r)) _ _
    (λ k. idles (working l to) (registered to r (came_to e a (registering l r) _ f g h) k refl refl refl refl) refl refl refl)
    (λ k. idle m e (registering l r))
registering_message m e a l r (messages.Fault name) f g h = registering_fault m e a l r name (came_to e a (registering l r) _ f g h) refl
registering_message m e a l r other f g h = idle m e (registering l r)

working_message : (m : Moment) (e : Event) (a : Arrived) (l : Leaf) (to : Epr) (x : Message) → e ≡ events.Arrived a → a.target ≡ leaf_target l → a.message ≡ x
    → Does m e (working l to) (on_leaf m a (working l to) x)
unfolding on_leaf leaf_registered
working_message m e a l to (messages.Notice n) f g h = working_notice m e a l to n f g h
working_message m e a l to (messages.RegisterResponse coordinator) f g h = idle m e (working l to)
working_message m e a l to (messages.Fault name) f g h = working_fault m e a.relates l to name (came_to e a (working l to) _ f g h)
working_message m e a l to other f g h = idle m e (working l to)

waiting_message : (m : Moment) (e : Event) (a : Arrived) (l : Leaf) (to : Epr) (x : Message) → e ≡ events.Arrived a → a.target ≡ leaf_target l → a.message ≡ x
    → Does m e (waiting l to) (on_leaf m a (waiting l to) x)
unfolding on_leaf leaf_registered
waiting_message m e a l to (messages.Notice n) f g h = waiting_notice m e a l to n f g h
waiting_message m e a l to (messages.RegisterResponse coordinator) f g h = idle m e (waiting l to)
waiting_message m e a l to (messages.Fault name) f g h = waiting_fault m e a.relates l to name (came_to e a (waiting l to) _ f g h)
waiting_message m e a l to other f g h = idle m e (waiting l to)

-- when it is due
abbrev DuesDo : Moment → Event → Leaf → Type 0
DuesDo m e l = Does m e l (leaf_reached m l (leaf_due m l))

due_either : (m : Moment) (e : Event) (l : Leaf) (late quiet : Bool) → (late ≡ true → Does m e l (leaf_reached m l Expired)) → (quiet ≡ true → Does m e l (leaf_reached m l Unanswered))
    → Does m e l (leaf_reached m l (if late then Expired else if quiet then Unanswered else Nothing))
unfolding leaf_reached
due_either m e l true quiet h k = h refl
due_either m e l false true h k = k refl
due_either m e l false false h k = idle m e l

registering_due : (m : Moment) (e : Event) (l : Leaf) (r : WorkRequest) → e ≡ events.Due (items.Leaf l.id) → DuesDo m e (registering l r)
unfolding leaf_reached
registering_due m e l r came =
    due_either m e (registering l r) (has_come m.now l.deadline) (is_quiet m.now l.sent && true)
    (λ f. aborts (inl refl) (expired r came f refl refl refl) refl refl refl)
    (λ f. idles (record (registering l r) { sent = Some m.now }) (registers_again r came refl refl refl refl) refl refl refl)

working_due : (m : Moment) (e : Event) (l : Leaf) (to : Epr) → e ≡ events.Due (items.Leaf l.id) → DuesDo m e (working l to)
unfolding leaf_reached
working_due m e l to came =
    due_either m e (working l to) (has_come m.now l.deadline) (is_quiet m.now l.sent && false)
    (λ f. aborts (inr refl) (gave_up to came f refl refl refl) refl refl refl)
    (λ f. let g : false ≡ true = second_true (is_quiet m.now l.sent) false f in absurd cc)

waiting_due : (m : Moment) (e : Event) (l : Leaf) (to : Epr) → e ≡ events.Due (items.Leaf l.id) → DuesDo m e (waiting l to)
unfolding leaf_reached
waiting_due m e l to came =
    due_either m e (waiting l to) false (is_quiet m.now l.sent && true) (λ f. absurd cc)
    (λ f. idles (record (waiting l to) { sent = Some m.now }) (votes_again to (inl came) refl refl refl refl) refl refl refl)

-- a leaf by how it stands
message_does : (m : Moment) (e : Event) (a : Arrived) (l : Leaf) → LeafStands l → e ≡ events.Arrived a → a.target ≡ leaf_target l → Does m e l (on_leaf m a l a.message)
message_does m e a l (registers r s c q) f g =
    subst (λ x. Does m e x (on_leaf m a x a.message)) (sym (is_registering l r s c q)) (registering_message m e a l r a.message f g refl)
message_does m e a l (works to s c q) f g =
    subst (λ x. Does m e x (on_leaf m a x a.message)) (sym (is_working l to s c q)) (working_message m e a l to a.message f g refl)
message_does m e a l (waits to s c q v) f g =
    subst (λ x. Does m e x (on_leaf m a x a.message)) (sym (is_waiting l to s c q v)) (waiting_message m e a l to a.message f g refl)

due_does : (m : Moment) (e : Event) (l : Leaf) → LeafStands l → e ≡ events.Due (items.Leaf l.id) → DuesDo m e l
due_does m e l (registers r s c q) f = subst (DuesDo m e) (sym (is_registering l r s c q)) (registering_due m e l r f)
due_does m e l (works to s c q) f = subst (DuesDo m e) (sym (is_working l to s c q)) (working_due m e l to f)
due_does m e l (waits to s c q v) f = subst (DuesDo m e) (sym (is_waiting l to s c q v)) (waiting_due m e l to f)

moved_does : (b : Book) (e : Event) (now : ℕ) (l : Leaf) (d : Decision Leaf) → LeafStands l → MovesLeaf b e now l d → Does (moment_of b now) e l d
moved_does b e now l d stands (at_leaf a came why is) = subst (Does (moment_of b now) e l) (sym is) (message_does (moment_of b now) e a l stands came why)
moved_does b e now l d stands (leaf_when_due came is) = subst (Does (moment_of b now) e l) (sym is) (due_does (moment_of b now) e l stands came)

pub leaves_do : LeavesDo
leaves_do = record {
  deed = moved_does;
  step = λ b e now landed l answer d stands how.
      became (LeafDeed (moment_of b now) e l) (LeafWaitsOn l) b (put_leaf l.id (at_time now b)) answer d landed (moved_does b e now l d stands how);
  says = deed_says;
}
