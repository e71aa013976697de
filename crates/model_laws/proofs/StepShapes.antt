-- Every step touches one item at most; so it sends its answer first, and draws at most one id.
use Rattle.std.specs.Prelude.{ℕ, List, [], ◌∷◌, ◌++◌, Option, Some, None, Bool, true, false, not, nat_lt, ◌&&◌, ◌+◌, if◌then◌else◌, bytes_eq, length, map, ◌≡◌, ◌≤◌}
use Rattle.at_base.specs.declared.limits.TheConstants.{MOST_ITEMS}
use Rattle.at_base.specs.declared.fault.Fault.{Fault}
use Rattle.at_base.specs.declared.fault.Fault.TheVariants.{CannotCreateContext, CannotRegisterParticipant, InvalidParameters, InvalidProtocol}
use Rattle.at_base.specs.Numbers.{Numbers}
use Rattle.at_base.specs.declared.epr.Epr.{Epr}
use Rattle.at_base.specs.declared.epr.Reply.{Reply}
use Rattle.at_base.specs.declared.epr.Reply.TheVariants as replies
use Rattle.at_base.specs.declared.notice.Kind.{Kind}
use Rattle.at_base.specs.declared.notice.Notice.TheVariants as notices
use Rattle.at_base.specs.declared.message.Message.{Message}
use Rattle.at_base.specs.declared.message.Message.TheVariants as messages
use Rattle.at_base.specs.declared.message.Context.{Context}
use Rattle.at_base.specs.declared.message.Create.{Create}
use Rattle.at_base.specs.declared.message.Register.{Register}
use Rattle.at_base.specs.declared.message.Work.{Work}
use Rattle.at_base.specs.declared.target.Seat.{Seat}
use Rattle.at_base.specs.declared.target.Target.{Target}
use Rattle.at_base.specs.declared.target.Target.TheVariants as targets
use Rattle.at_base.specs.declared.event.Arrived.{Arrived}
use Rattle.at_base.specs.declared.event.Moment.{Moment}
use Rattle.at_base.specs.declared.event.Local.{Local}
use Rattle.at_base.specs.declared.event.Local.TheVariants as locals
use Rattle.at_base.specs.declared.event.Item.{Item}
use Rattle.at_base.specs.declared.event.Item.TheVariants as items
use Rattle.at_base.specs.declared.event.Event.{Event}
use Rattle.at_base.specs.declared.event.Event.TheVariants as events
use Rattle.at_base.specs.declared.outs.Post.{Post}
use Rattle.at_base.specs.declared.outs.Out.{Out}
use Rattle.at_base.specs.declared.outs.Out.TheVariants as outs
use Rattle.at_tables.specs.declared.cells.State.TheVariants as states
use Rattle.at_base.specs.Names.{is_kind}
use Rattle.at_tables.specs.Tables.{participant_of, completion_of}
use Rattle.at_model.specs.Book.{Book, Transaction, Leaf, Activity, Enlistment, Completion, Superior, next_id, transaction_id, leaf_id, activity_id}
use Rattle.endpoints.specs.Addresses.{atomic}
use Rattle.at_model.specs.Posts.{accepted, replied, faulted}
use Rattle.at_model.specs.Moves.{Change, Goes}
use Rattle.at_model.specs.Register.{protocol_named, Registration, seat_endpoint, completion_endpoint, may_register, is_late, new_seat, late_prepare, accept, refuse_register, register_new, register_again, held_seat, on_register, register_unknown}
use Rattle.at_model.specs.Create.{new_root, Creation, refuse_create, create_under, create_in, on_create}
use Rattle.at_model.specs.Arrivals.{on_link, on_seat, on_completion, context_of, with_answer}
use Rattle.at_model.specs.Leaves.{on_leaf, Employment, refuse_work, work_for, on_work}
use Rattle.at_model.specs.Activities.{on_activity, Refusal, on_begin, on_interpose, on_ask, on_complete}
use Rattle.at_model.specs.Due.{transaction_due, transaction_reached, leaf_due, leaf_reached, activity_due, activity_reached}
use Rattle.at_model.specs.Step.{Outcome, Plan, plain, still, at_time, moment_of, put_transaction, put_leaf, put_activity, make_transaction, make_leaf, make_activity, leaf_plan, stranger_cell, nothing, stranger_plan, created_plan, activation_plan, registration_plan, registration_outcome, completion_seat_plan, completion_plan, find_seat, seat_plan, coordinator_plan, leaf_or_stranger_plan, link_plan, participant_plan, initiator_plan, employed_plan, work_plan, transaction_at, leaf_at, activity_at, arrived_plan, refuses, begin_plan, interpose_plan, asking_plan, request_plan, local_plan, transaction_due_plan, leaf_due_plan, activity_due_plan, due_plan, plan, outcome_cell, outcome_plan, seatless_plan, has_committed}
use Rattle.model_laws.specs.Laws.{ArePosts, IsOrdered, StepsAnswerFirst, KeepsPlace, StepsKeepPlace}
use Rattle.model_laws.specs.Shapes.{IsAnswer, IfFound, NoParticipant, IsUnknownAt, unknown_cell, ignored, unknown, committed, time_passes, not_created, not_registered, not_employed, MovesActivity, at_seat, at_link, at_completion, when_due, at_leaf, leaf_when_due, at_activity, activity_when_due, works, completes, begins, interposes, Shape, StepsTouchOne, nothing_moves, time_moves, transaction_moves, leaf_moves, activity_moves, transaction_registers, transaction_made, leaf_made, activity_made}
use Rattle.model_laws.proofs.DecisionLaws.{found_id, same_kind, Both, in_branch, plain_both, decision_both, StaysOn}
use Rattle.std.proofs.Common.{sym, subst, ap, ◌∙◌, inl, inr, refl, arith}

are_posts : (ps : List Post) → ArePosts (map outs.Post ps)
are_posts [] = tt
are_posts (p ∷ ps) = are_posts ps

only_posts : (ps : List Post) → IsOrdered (map outs.Post ps)
only_posts [] = tt
only_posts (p ∷ ps) = are_posts ps

behind_accepted : (ps : List Post) → IsOrdered (accepted ++ map outs.Post ps)
behind_accepted ps = are_posts ps

replied_in_order : (r : Reply) (id : Option (List ℕ)) (x : Message) → IsOrdered (replied r id x)
replied_in_order replies.Anonymous id x = tt
replied_in_order replies.Nobody id x = tt
replied_in_order (replies.At to) id x = tt

faulted_in_order : (r : Reply) (id : Option (List ℕ)) (drawn : Fault) → IsOrdered (faulted r id drawn)
faulted_in_order replies.Anonymous id drawn = tt
faulted_in_order replies.Nobody id drawn = tt
faulted_in_order (replies.At to) id drawn = tt

late_posts : (m : Moment) (id : Numbers) (late : Bool) (s : Enlistment) → ArePosts (late_prepare m id late s)
late_posts m id true s = tt
late_posts m id false s = tt

replied_then : (r : Reply) (id : Option (List ℕ)) (x : Message) (more : List Out) → ArePosts more → IsOrdered (replied r id x ++ more)
replied_then replies.Anonymous id x more h = h
replied_then replies.Nobody id x more h = h
replied_then (replies.At to) id x more h = h

answered : (answer : List Out) (ps : List Post) → IsAnswer answer → IsOrdered (answer ++ map outs.Post ps)
answered answer ps (inl e) = subst (λ os. IsOrdered (os ++ map outs.Post ps)) (sym e) (only_posts ps)
answered answer ps (inr e) = subst (λ os. IsOrdered (os ++ map outs.Post ps)) (sym e) (behind_accepted ps)

-- registration
accept_in_order : (m : Moment) (a : Arrived) (t : Transaction) (participant : Epr) (kind : Option Kind) → IsOrdered (accept m a t participant kind).outs
unfolding accept
accept_in_order m a t participant (Some kind) =
    replied_then a.reply a.id (messages.RegisterResponse (seat_endpoint m.base t.id (new_seat t participant kind)))
    (late_prepare m t.id (is_late t.phase kind) (new_seat t participant kind))
    (late_posts m t.id (is_late t.phase kind) (new_seat t participant kind))
accept_in_order m a t participant None = replied_in_order a.reply a.id (messages.RegisterResponse (completion_endpoint m.base t.id))

either : (b : Bool) (x y : Registration) → IsOrdered x.outs → IsOrdered y.outs → IsOrdered (if b then x else y).outs
either true x y h k = h
either false x y h k = k

register_new_in_order : (m : Moment) (a : Arrived) (r : Register) (t : Transaction) (kind : Option (Option Kind)) → IsOrdered (register_new m a r t kind).outs
unfolding register_new
register_new_in_order m a r t None = faulted_in_order a.fault a.id InvalidProtocol
register_new_in_order m a r t (Some kind) =
    either (not a.postable) (refuse_register a t InvalidParameters)
    (if may_register t kind then accept m a t r.participant kind else refuse_register a t CannotRegisterParticipant)
    (faulted_in_order a.fault a.id InvalidParameters)
    (either (may_register t kind) (accept m a t r.participant kind) (refuse_register a t CannotRegisterParticipant)
    (accept_in_order m a t r.participant kind) (faulted_in_order a.fault a.id CannotRegisterParticipant))

register_again_in_order : (m : Moment) (a : Arrived) (r : Register) (t : Transaction) (kind : Option (Option Kind)) (held : Option Epr)
    → IsOrdered (register_again m a r t kind held).outs
unfolding register_again
register_again_in_order m a r t kind (Some coordinator) = replied_in_order a.reply a.id (messages.RegisterResponse coordinator)
register_again_in_order m a r t kind None = register_new_in_order m a r t kind

register_in_order : (m : Moment) (a : Arrived) (r : Register) (t : Transaction) → IsOrdered (on_register m a r t).outs
unfolding on_register
register_in_order m a r t = register_again_in_order m a r t (protocol_named r.protocol) (held_seat m r t (protocol_named r.protocol))

register_unknown_in_order : (a : Arrived) (r : Register) (kind : Option (Option Kind)) → IsOrdered (register_unknown a r kind)
unfolding register_unknown
register_unknown_in_order a r None = faulted_in_order a.fault a.id InvalidProtocol
register_unknown_in_order a r (Some kind) = faulted_in_order a.fault a.id (if a.postable then CannotRegisterParticipant else InvalidParameters)

-- creation
either_creation : (b : Bool) (x y : Creation) → IsOrdered x.outs → IsOrdered y.outs → IsOrdered (if b then x else y).outs
either_creation true x y h k = h
either_creation false x y h k = k

create_under_in_order : (m : Moment) (id : Numbers) (a : Arrived) (c : Create) (current : Context) (r : Reply) → IsOrdered (create_under m id a c current r).outs
unfolding create_under
create_under_in_order m id a c current (replies.At reply) = tt
create_under_in_order m id a c current replies.Anonymous = faulted_in_order a.fault a.id CannotCreateContext
create_under_in_order m id a c current replies.Nobody = faulted_in_order a.fault a.id CannotCreateContext

create_in_in_order : (m : Moment) (id : Numbers) (a : Arrived) (c : Create) (current : Option Context) → IsOrdered (create_in m id a c current).outs
unfolding create_in
create_in_in_order m id a c None = replied_in_order a.reply a.id (messages.CreateResponse (context_of m.base (new_root m id c) c.expires))
create_in_in_order m id a c (Some current) = create_under_in_order m id a c current a.reply

create_in_order : (m : Moment) (live : ℕ) (a : Arrived) (c : Create) (next : Option Numbers) → IsOrdered (on_create m live a c next).outs
unfolding on_create
create_in_order m live a c None = faulted_in_order a.fault a.id CannotCreateContext
create_in_order m live a c (Some id) =
    either_creation (bytes_eq c.coordination atomic && nat_lt live MOST_ITEMS) (create_in m id a c c.current) (refuse_create a)
    (create_in_in_order m id a c c.current) (faulted_in_order a.fault a.id CannotCreateContext)

-- work
either_work : (b : Bool) (x y : Employment) → IsOrdered x.outs → IsOrdered y.outs → IsOrdered (if b then x else y).outs
either_work true x y h k = h
either_work false x y h k = k

work_for_in_order : (m : Moment) (id : Numbers) (a : Arrived) (w : Work) (r : Reply) → IsOrdered (work_for m id a w r).outs
work_for_in_order m id a w (replies.At reply) = tt
work_for_in_order m id a w replies.Anonymous = replied_in_order a.reply a.id messages.WorkRefused
work_for_in_order m id a w replies.Nobody = replied_in_order a.reply a.id messages.WorkRefused

work_in_order : (m : Moment) (live : ℕ) (a : Arrived) (w : Work) (next : Option Numbers) → IsOrdered (on_work m live a w next).outs
unfolding on_work
work_in_order m live a w None = replied_in_order a.reply a.id messages.WorkRefused
work_in_order m live a w (Some id) =
    either_work (nat_lt live MOST_ITEMS) (work_for m id a w a.reply) (refuse_work a)
    (work_for_in_order m id a w a.reply) (replied_in_order a.reply a.id messages.WorkRefused)

-- each plan
is_accepted : IsAnswer accepted
is_accepted = inr refl

no_answer : IsAnswer []
no_answer = inl refl

nothing_shape : (b : Book) (now : ℕ) (a : Arrived) → Shape b (events.Arrived a) now (nothing b now)
nothing_shape b now a = time_moves a accepted refl (ignored refl) tt refl

-- a message at what isn't known
stranger_shape : (b : Book) (now : ℕ) (a : Arrived) (T : Target) (x : Message) → a.target ≡ T → a.message ≡ x → IsUnknownAt b T
    → Shape b (events.Arrived a) now (stranger_plan b now a (unknown_cell T) x)
stranger_shape b now a T (messages.Notice n) e f h =
    time_moves a (accepted ++ map outs.Post (stranger_cell b.base a.target a.from a.id (unknown_cell T n))) refl
    (unknown n f (subst (IsUnknownAt b) (sym e) h) (ap (λ S. accepted ++ map outs.Post (stranger_cell b.base a.target a.from a.id (unknown_cell S n))) (sym e)))
    (behind_accepted (stranger_cell b.base a.target a.from a.id (unknown_cell T n))) refl
stranger_shape b now a T other e f h = nothing_shape b now a

found_at : {A : Type 0} (P : A → Type 0) (o : Option A) (p : Option A) → o ≡ p → IfFound P p → IfFound P o
found_at P o p e h = subst (IfFound P) (sym e) h

not_made : (m : Moment) (live : ℕ) (a : Arrived) (c : Create) (t : Transaction) → (on_create m live a c None).transaction ≡ Some t → ⊥
unfolding on_create
not_made m live a c t e = absurd cc

created_shape : (b : Book) (now : ℕ) (a : Arrived) (c : Create) (next : Option Numbers) (t : Option Transaction) → a.target ≡ targets.Activation → a.message ≡ messages.Create c → next_id b ≡ next
    → (on_create (moment_of b now) (length b.transactions) a c next).transaction ≡ t
    → Shape b (events.Arrived a) now (created_plan b now t (on_create (moment_of b now) (length b.transactions) a c next).outs)
created_shape b now a c next None e x f g =
    time_moves a (on_create (moment_of b now) (length b.transactions) a c next).outs refl
    (not_created c e x (ap (λ o. (on_create (moment_of b now) (length b.transactions) a c o).transaction) f ∙ g)
    (ap (λ o. (on_create (moment_of b now) (length b.transactions) a c o).outs) (sym f)))
    (create_in_order (moment_of b now) (length b.transactions) a c next) refl
created_shape b now a c None (Some t) e x f g = absurd (not_made (moment_of b now) (length b.transactions) a c t g)
created_shape b now a c (Some id) (Some t) e x f g =
    transaction_made a c id t (on_create (moment_of b now) (length b.transactions) a c (Some id)).outs refl e x f g refl
    (create_in_order (moment_of b now) (length b.transactions) a c (Some id)) refl

activation_shape : (b : Book) (now : ℕ) (a : Arrived) (x : Message) → a.target ≡ targets.Activation → a.message ≡ x → Shape b (events.Arrived a) now (activation_plan b now a x)
unfolding activation_plan
activation_shape b now a (messages.Create c) e f =
    created_shape b now a c (next_id b) (on_create (moment_of b now) (length b.transactions) a c (next_id b)).transaction e f refl refl
activation_shape b now a other e f = nothing_shape b now a

registration_shape : (b : Book) (now : ℕ) (a : Arrived) (id : Numbers) (x : Message) (t : Option Transaction) → a.target ≡ targets.Registration id → a.message ≡ x → transaction_at b id ≡ t
    → Shape b (events.Arrived a) now (registration_plan b now a x t)
unfolding registration_plan
registration_shape b now a id (messages.Register r) None e f g =
    time_moves a (register_unknown a r (protocol_named r.protocol)) refl (not_registered id r e f g refl) (register_unknown_in_order a r (protocol_named r.protocol)) refl
registration_shape b now a id (messages.Register r) (Some t) e f g =
    transaction_registers id a r t g refl e f (register_in_order (moment_of b now) a r t) refl
registration_shape b now a id other t e f g = nothing_shape b now a

-- what is found by an id has it
own_id : (b : Book) (id : Numbers) (t : Transaction) → transaction_at b id ≡ Some t → id ≡ t.id
own_id b id t f = sym (found_id transaction_id id b.transactions t f)

-- a message at the completion seat of a root that committed
outcome_shape : (b : Book) (now : ℕ) (a : Arrived) (id : Numbers) (x : Message) → a.target ≡ targets.Completion id → a.message ≡ x → has_committed b id ≡ true
    → Shape b (events.Arrived a) now (outcome_plan b now a x)
outcome_shape b now a id (messages.Notice n) e f h =
    time_moves a (accepted ++ map outs.Post (outcome_cell b.base a.target a.from a.id (completion_of states.Done n))) refl
    (committed n id f e h refl) (behind_accepted (outcome_cell b.base a.target a.from a.id (completion_of states.Done n))) refl
outcome_shape b now a id other e f h = nothing_shape b now a

seatless_shape : (b : Book) (now : ℕ) (a : Arrived) (id : Numbers) (done : Bool) → a.target ≡ targets.Completion id → has_committed b id ≡ done
    → IfFound (λ t. t.completion ≡ None) (transaction_at b id) → Shape b (events.Arrived a) now (seatless_plan b now a done)
seatless_shape b now a id true e h f = outcome_shape b now a id a.message e refl h
seatless_shape b now a id false e h f = stranger_shape b now a (targets.Completion id) a.message e refl (f, h)

completion_seat_shape : (b : Book) (now : ℕ) (a : Arrived) (id : Numbers) (t : Transaction) (c : Option Completion) → a.target ≡ targets.Completion id → transaction_at b id ≡ Some t → t.completion ≡ c
    → Shape b (events.Arrived a) now (completion_seat_plan b now a (has_committed b id) t c)
completion_seat_shape b now a id t None e f g =
    seatless_shape b now a id (has_committed b id) e refl (found_at (λ x. x.completion ≡ None) (transaction_at b id) (Some t) f g)
completion_seat_shape b now a id t (Some c) e f g =
    transaction_moves id t accepted (on_completion (moment_of b now) a t c a.message) f (at_completion a c refl (e ∙ ap targets.Completion (own_id b id t f)) g refl) is_accepted refl

completion_shape : (b : Book) (now : ℕ) (a : Arrived) (id : Numbers) (t : Option Transaction) → a.target ≡ targets.Completion id → transaction_at b id ≡ t
    → Shape b (events.Arrived a) now (completion_plan b now a (has_committed b id) t)
unfolding completion_plan
completion_shape b now a id None e f =
    seatless_shape b now a id (has_committed b id) e refl (found_at (λ x. x.completion ≡ None) (transaction_at b id) None f tt)
completion_shape b now a id (Some t) e f = completion_seat_shape b now a id t t.completion e f refl

seat_shape : (b : Book) (now : ℕ) (a : Arrived) (id : Numbers) (seat : Seat) (t : Transaction) (s : Option Enlistment) → a.target ≡ targets.Coordinator id seat → transaction_at b id ≡ Some t
    → find_seat seat.number seat.kind t.seats ≡ s → Shape b (events.Arrived a) now (seat_plan b now a seat.kind t s)
seat_shape b now a id seat t None e f g =
    stranger_shape b now a (targets.Coordinator id seat) a.message e refl
    (found_at (λ x. find_seat seat.number seat.kind x.seats ≡ None) (transaction_at b id) (Some t) f g)
seat_shape b now a id seat t (Some s) e f g =
    transaction_moves id t accepted (on_seat (moment_of b now) a t s a.message) f
    (at_seat a s refl (record { number = seat.number; kind = seat.kind; target = e ∙ ap (λ i. targets.Coordinator i seat) (own_id b id t f); found = g }) refl) is_accepted refl

coordinator_shape : (b : Book) (now : ℕ) (a : Arrived) (id : Numbers) (seat : Seat) (t : Option Transaction) → a.target ≡ targets.Coordinator id seat → transaction_at b id ≡ t
    → Shape b (events.Arrived a) now (coordinator_plan b now a seat.number seat.kind t)
unfolding coordinator_plan
coordinator_shape b now a id seat None e f =
    stranger_shape b now a (targets.Coordinator id seat) a.message e refl
    (found_at (λ x. find_seat seat.number seat.kind x.seats ≡ None) (transaction_at b id) None f tt)
coordinator_shape b now a id seat (Some t) e f = seat_shape b now a id seat t (find_seat seat.number seat.kind t.seats) e f refl

-- a participant
unknown_part : (b : Book) (kind : Kind) (id : Numbers) (t : Option Transaction) (l : Option Leaf) → transaction_at b id ≡ t → leaf_at b id ≡ l → NoParticipant kind t l
    → IsUnknownAt b (targets.Participant id kind)
unknown_part b kind id t l f g h = subst (λ o. NoParticipant kind o (leaf_at b id)) (sym f) (subst (NoParticipant kind t) (sym g) h)

leaf_shape : (b : Book) (now : ℕ) (a : Arrived) (kind : Kind) (id : Numbers) (l : Leaf) → a.target ≡ targets.Participant id kind → transaction_at b id ≡ None → leaf_at b id ≡ Some l
    → (test : Bool) → is_kind l.kind kind ≡ test
    → Shape b (events.Arrived a) now
    (if test then leaf_plan b now accepted l (on_leaf (moment_of b now) a l a.message) else stranger_plan b now a (participant_of kind states.None) a.message)
leaf_shape b now a kind id l e none f true g =
    leaf_moves id l accepted (on_leaf (moment_of b now) a l a.message) f
    (at_leaf a refl (e ∙ (λ i. targets.Participant (sym (found_id leaf_id id b.leaves l f) i) (sym (same_kind l.kind kind g) i))) refl) is_accepted refl
leaf_shape b now a kind id l e none f false g =
    stranger_shape b now a (targets.Participant id kind) a.message e refl (unknown_part b kind id None (Some l) none f g)

leaf_or_stranger_shape : (b : Book) (now : ℕ) (a : Arrived) (kind : Kind) (id : Numbers) (l : Option Leaf) → a.target ≡ targets.Participant id kind → transaction_at b id ≡ None → leaf_at b id ≡ l
    → Shape b (events.Arrived a) now (leaf_or_stranger_plan b now a kind l)
leaf_or_stranger_shape b now a kind id None e none f =
    stranger_shape b now a (targets.Participant id kind) a.message e refl (unknown_part b kind id None None none f tt)
leaf_or_stranger_shape b now a kind id (Some l) e none f = leaf_shape b now a kind id l e none f (is_kind l.kind kind) refl

link_shape : (b : Book) (now : ℕ) (a : Arrived) (kind : Kind) (id : Numbers) (t : Transaction) (s : Option Superior) → a.target ≡ targets.Participant id kind → transaction_at b id ≡ Some t
    → t.superior ≡ s → Shape b (events.Arrived a) now (link_plan b now a kind t s)
link_shape b now a kind id t None e f g =
    stranger_shape b now a (targets.Participant id kind) a.message e refl (unknown_part b kind id (Some t) (leaf_at b id) f refl g)
link_shape b now a kind id t (Some s) e f g =
    transaction_moves id t accepted (on_link (moment_of b now) a kind t s a.message) f
    (at_link a kind s refl (e ∙ ap (λ i. targets.Participant i kind) (own_id b id t f)) g refl) is_accepted refl

participant_shape : (b : Book) (now : ℕ) (a : Arrived) (kind : Kind) (id : Numbers) (t : Option Transaction) → a.target ≡ targets.Participant id kind → transaction_at b id ≡ t
    → Shape b (events.Arrived a) now (participant_plan b now a kind t (leaf_at b id))
unfolding participant_plan
participant_shape b now a kind id (Some t) e f = link_shape b now a kind id t t.superior e f refl
participant_shape b now a kind id None e f = leaf_or_stranger_shape b now a kind id (leaf_at b id) e f refl

initiator_shape : (b : Book) (now : ℕ) (a : Arrived) (id : Numbers) (x : Option Activity) → a.target ≡ targets.Initiator id → activity_at b id ≡ x
    → Shape b (events.Arrived a) now (initiator_plan b now a x)
unfolding initiator_plan
initiator_shape b now a id None e f = stranger_shape b now a (targets.Initiator id) a.message e refl f
initiator_shape b now a id (Some x) e f =
    activity_moves id x accepted (on_activity (moment_of b now) a x a.message) f
    (at_activity a refl (e ∙ ap targets.Initiator (sym (found_id activity_id id b.activities x f))) refl) is_accepted refl

no_employment : (m : Moment) (live : ℕ) (a : Arrived) (w : Work) (l : Leaf) → (on_work m live a w None).leaf ≡ Some l → ⊥
unfolding on_work
no_employment m live a w l e = absurd cc

employed_shape : (b : Book) (now : ℕ) (a : Arrived) (w : Work) (next : Option Numbers) (l : Option Leaf) → a.target ≡ targets.Work → a.message ≡ messages.Work w → next_id b ≡ next
    → (on_work (moment_of b now) (length b.leaves) a w next).leaf ≡ l
    → Shape b (events.Arrived a) now (employed_plan b now l (on_work (moment_of b now) (length b.leaves) a w next).outs)
employed_shape b now a w next None e x f g =
    time_moves a (on_work (moment_of b now) (length b.leaves) a w next).outs refl
    (not_employed w e x (ap (λ o. (on_work (moment_of b now) (length b.leaves) a w o).leaf) f ∙ g) (ap (λ o. (on_work (moment_of b now) (length b.leaves) a w o).outs) (sym f)))
    (work_in_order (moment_of b now) (length b.leaves) a w next) refl
employed_shape b now a w None (Some l) e x f g = absurd (no_employment (moment_of b now) (length b.leaves) a w l g)
employed_shape b now a w (Some id) (Some l) e x f g =
    leaf_made a w id l (on_work (moment_of b now) (length b.leaves) a w (Some id)).outs refl e x f g refl (work_in_order (moment_of b now) (length b.leaves) a w (Some id)) refl

work_shape : (b : Book) (now : ℕ) (a : Arrived) (x : Message) → a.target ≡ targets.Work → a.message ≡ x → Shape b (events.Arrived a) now (work_plan b now a x)
unfolding work_plan
work_shape b now a (messages.Work w) e f = employed_shape b now a w (next_id b) (on_work (moment_of b now) (length b.leaves) a w (next_id b)).leaf e f refl refl
work_shape b now a other e f = nothing_shape b now a

arrived_shape : (b : Book) (now : ℕ) (a : Arrived) (target : Target) → a.target ≡ target → Shape b (events.Arrived a) now (arrived_plan b now a target)
unfolding arrived_plan
arrived_shape b now a targets.Activation e = activation_shape b now a a.message e refl
arrived_shape b now a (targets.Registration id) e = registration_shape b now a id a.message (transaction_at b id) e refl refl
arrived_shape b now a (targets.Completion id) e = completion_shape b now a id (transaction_at b id) e refl
arrived_shape b now a (targets.Coordinator id seat) e = coordinator_shape b now a id seat (transaction_at b id) e refl
arrived_shape b now a (targets.Participant id kind) e = participant_shape b now a kind id (transaction_at b id) e refl
arrived_shape b now a (targets.Initiator id) e = initiator_shape b now a id (activity_at b id) e refl
arrived_shape b now a targets.Work e = work_shape b now a a.message e refl

still_shape : (b : Book) (e : Event) (now : ℕ) → Shape b e now (plain (still b []))
still_shape b e now = nothing_moves refl

begin_shape : (b : Book) (now : ℕ) (coordinator : List ℕ) (ms : ℕ) (next : Option Numbers) → next_id b ≡ next
    → Shape b (events.Local (locals.Begin coordinator ms)) now (begin_plan b now coordinator ms next)
begin_shape b now coordinator ms None f = still_shape b (events.Local (locals.Begin coordinator ms)) now
begin_shape b now coordinator ms (Some id) f =
    activity_made id (on_begin (moment_of b now) id coordinator ms).activity (map outs.Post (on_begin (moment_of b now) id coordinator ms).posts)
    f (begins coordinator ms refl refl refl) (only_posts (on_begin (moment_of b now) id coordinator ms).posts) refl

interpose_shape : (b : Book) (now : ℕ) (coordinator : List ℕ) (named : Numbers) (next : Option Numbers) (a : Option Activity) → next_id b ≡ next → activity_at b named ≡ a
    → Shape b (events.Local (locals.Interpose named coordinator)) now (interpose_plan b now coordinator next a)
interpose_shape b now coordinator named None a f g = still_shape b (events.Local (locals.Interpose named coordinator)) now
interpose_shape b now coordinator named (Some id) None f g = still_shape b (events.Local (locals.Interpose named coordinator)) now
interpose_shape b now coordinator named (Some id) (Some a) f g =
    activity_made id (on_interpose (moment_of b now) id coordinator a.root a.context).activity (map outs.Post (on_interpose (moment_of b now) id coordinator a.root a.context).posts)
    f (interposes coordinator named a refl g refl refl) (only_posts (on_interpose (moment_of b now) id coordinator a.root a.context).posts) refl

asking_shape : (b : Book) (e : Event) (now : ℕ) (id : Numbers) (change : Activity → Change Activity) (a : Option Activity) → activity_at b id ≡ a
    → ((x : Activity) → id ≡ x.id → MovesActivity b e now x (Goes (change x))) → Shape b e now (asking_plan b now change a)
asking_shape b e now id change None f how = still_shape b e now
asking_shape b e now id change (Some a) f how = activity_moves id a [] (Goes (change a)) f (how a (sym (found_id activity_id id b.activities a f))) no_answer refl

request_shape : (b : Book) (now : ℕ) (l : Local) → Shape b (events.Local l) now (request_plan b now l)
unfolding request_plan
request_shape b now (locals.Begin coordinator ms) = begin_shape b now coordinator ms (next_id b) refl
request_shape b now (locals.Interpose activity coordinator) = interpose_shape b now coordinator activity (next_id b) (activity_at b activity) refl refl
request_shape b now (locals.Work activity url kind vote key value) =
    asking_shape b (events.Local (locals.Work activity url kind vote key value)) now activity (λ a. on_ask (moment_of b now) url kind vote key value a a.context) (activity_at b activity) refl
    (λ a same. works url kind vote key value (ap (λ i. events.Local (locals.Work i url kind vote key value)) same) refl)
request_shape b now (locals.Commit activity) =
    asking_shape b (events.Local (locals.Commit activity)) now activity (on_complete (moment_of b now) notices.Commit) (activity_at b activity) refl
    (λ a same. completes notices.Commit (locals.Commit activity) refl (ap (λ i. Some (locals.Commit i)) (sym same)) refl)
request_shape b now (locals.Rollback activity) =
    asking_shape b (events.Local (locals.Rollback activity)) now activity (on_complete (moment_of b now) notices.Rollback) (activity_at b activity) refl
    (λ a same. completes notices.Rollback (locals.Rollback activity) refl (ap (λ i. Some (locals.Rollback i)) (sym same)) refl)

local_shape : (b : Book) (now : ℕ) (l : Local) (refusal : Option Refusal) → Shape b (events.Local l) now (local_plan b now l refusal)
local_shape b now l None = request_shape b now l
local_shape b now l (Some refusal) = still_shape b (events.Local l) now

transaction_due_shape : (b : Book) (now : ℕ) (id : Numbers) (t : Option Transaction) → transaction_at b id ≡ t → Shape b (events.Due (items.Transaction id)) now (transaction_due_plan b now t)
transaction_due_shape b now id None f = still_shape b (events.Due (items.Transaction id)) now
transaction_due_shape b now id (Some t) f =
    transaction_moves id t [] (transaction_reached (moment_of b now) t (transaction_due (moment_of b now) t)) f
    (when_due (ap (λ i. events.Due (items.Transaction i)) (own_id b id t f)) refl) no_answer refl

leaf_due_shape : (b : Book) (now : ℕ) (id : Numbers) (l : Option Leaf) → leaf_at b id ≡ l → Shape b (events.Due (items.Leaf id)) now (leaf_due_plan b now l)
leaf_due_shape b now id None f = still_shape b (events.Due (items.Leaf id)) now
leaf_due_shape b now id (Some l) f =
    leaf_moves id l [] (leaf_reached (moment_of b now) l (leaf_due (moment_of b now) l)) f
    (leaf_when_due (ap (λ i. events.Due (items.Leaf i)) (sym (found_id leaf_id id b.leaves l f))) refl) no_answer refl

activity_due_shape : (b : Book) (now : ℕ) (id : Numbers) (a : Option Activity) → activity_at b id ≡ a → Shape b (events.Due (items.Activity id)) now (activity_due_plan b now a)
activity_due_shape b now id None f = still_shape b (events.Due (items.Activity id)) now
activity_due_shape b now id (Some a) f =
    activity_moves id a [] (activity_reached (moment_of b now) a (activity_due (moment_of b now) a)) f
    (activity_when_due (ap (λ i. events.Due (items.Activity i)) (sym (found_id activity_id id b.activities a f))) refl) no_answer refl

due_shape : (b : Book) (now : ℕ) (item : Item) → Shape b (events.Due item) now (due_plan b now item)
unfolding due_plan
due_shape b now (items.Transaction id) = transaction_due_shape b now id (transaction_at b id) refl
due_shape b now (items.Leaf id) = leaf_due_shape b now id (leaf_at b id) refl
due_shape b now (items.Activity id) = activity_due_shape b now id (activity_at b id) refl

pub steps_touch_one : StepsTouchOne
steps_touch_one b (events.Arrived a) now = arrived_shape b now a a.target refl
steps_touch_one b (events.Local l) now = local_shape b now l (refuses b l)
steps_touch_one b (events.Due item) now = due_shape b now item
steps_touch_one b events.Tick now = time_passes refl refl

-- what follows for each step
le_self : (n : ℕ) → n ≤ n
le_self n = omega arith

stays_put : (b c : Book) → c.base ≡ b.base → c.incarnation ≡ b.incarnation → c.counter ≡ b.counter → KeepsPlace b c
stays_put b c e f g = record { base = e; incarnation = f; counter = omega (arith, g); one = omega (arith, g) }

draws_one : (b c : Book) → c.base ≡ b.base → c.incarnation ≡ b.incarnation → c.counter ≡ b.counter + 1 → KeepsPlace b c
draws_one b c e f g = record { base = e; incarnation = f; counter = omega (arith, g); one = omega (arith, g) }

KeepsPlaceIn : Book → Outcome → Type 0
KeepsPlaceIn b o = KeepsPlace b o.book

Ordered : Outcome → Type 0
Ordered o = IsOrdered o.outs

answer_alone : (answer : List Out) → IsAnswer answer → IsOrdered answer
answer_alone answer (inl e) = subst IsOrdered (sym e) tt
answer_alone answer (inr e) = subst IsOrdered (sym e) tt

ordered_both : (b : Book) (e : Event) (now : ℕ) (p : Plan) → Shape b e now p → Both Ordered p
unfolding Ordered
ordered_both b e now p (nothing_moves f) = subst (Both Ordered) (sym f) (plain_both Ordered (still b []) tt)
ordered_both b e now p (time_moves a os came why h f) = subst (Both Ordered) (sym f) (plain_both Ordered (still (at_time now b) os) h)
ordered_both b e now p (time_passes came f) = subst (Both Ordered) (sym f) (plain_both Ordered (still (at_time now b) accepted) tt)
ordered_both b e now p (transaction_moves id t answer d stands how h f) =
    subst (Both Ordered) (sym f) (decision_both Ordered (λ r o i. i) b (put_transaction t.id (at_time now b)) answer (with_answer (moment_of b now) t d) (λ c. answered answer c.posts h) (answer_alone answer h))
ordered_both b e now p (leaf_moves id l answer d stands how h f) =
    subst (Both Ordered) (sym f) (decision_both Ordered (λ r o i. i) b (put_leaf l.id (at_time now b)) answer d (λ c. answered answer c.posts h) (answer_alone answer h))
ordered_both b e now p (activity_moves id a answer d stands how h f) =
    subst (Both Ordered) (sym f) (decision_both Ordered (λ r o i. i) b (put_activity a.id (at_time now b)) answer d (λ c. answered answer c.posts h) (answer_alone answer h))
ordered_both b e now p (transaction_registers id a r t stands came at says h f) =
    subst (Both Ordered) (sym f) (plain_both Ordered (registration_outcome b now (on_register (moment_of b now) a r t)) h)
ordered_both b e now p (transaction_made a c id t os came at says next made sent h f) = subst (Both Ordered) (sym f) (plain_both Ordered (still (make_transaction (at_time now b) t) os) h)
ordered_both b e now p (leaf_made a w id l os came at says next made sent h f) = subst (Both Ordered) (sym f) (plain_both Ordered (still (make_leaf (at_time now b) l) os) h)
ordered_both b e now p (activity_made id a os next made h f) = subst (Both Ordered) (sym f) (plain_both Ordered (still (make_activity (at_time now b) a) os) h)

pub steps_answer_first : StepsAnswerFirst
unfolding Ordered
steps_answer_first b e now landed = in_branch Ordered (plan b e now) landed (ordered_both b e now (plan b e now) (steps_touch_one b e now))

as_it_was : (b : Book) → KeepsPlace b b
as_it_was b = stays_put b b refl refl refl

place_on : (b : Book) → StaysOn (KeepsPlaceIn b)
unfolding KeepsPlaceIn
place_on b r o h = record { base = h.base; incarnation = h.incarnation; counter = h.counter; one = h.one }

place_both : (b : Book) (e : Event) (now : ℕ) (p : Plan) → Shape b e now p → Both (KeepsPlaceIn b) p
unfolding KeepsPlaceIn
place_both b e now p (nothing_moves f) = subst (Both (KeepsPlaceIn b)) (sym f) (plain_both (KeepsPlaceIn b) (still b []) (as_it_was b))
place_both b e now p (time_moves a os came why h f) =
    subst (Both (KeepsPlaceIn b)) (sym f) (plain_both (KeepsPlaceIn b) (still (at_time now b) os) (stays_put b (at_time now b) refl refl refl))
place_both b e now p (time_passes came f) =
    subst (Both (KeepsPlaceIn b)) (sym f) (plain_both (KeepsPlaceIn b) (still (at_time now b) accepted) (stays_put b (at_time now b) refl refl refl))
place_both b e now p (transaction_moves id t answer d stands how h f) =
    subst (Both (KeepsPlaceIn b)) (sym f)
    (decision_both (KeepsPlaceIn b) (place_on b) b (put_transaction t.id (at_time now b)) answer (with_answer (moment_of b now) t d)
    (λ c. stays_put b (put_transaction t.id (at_time now b) c.item) refl refl refl) (as_it_was b))
place_both b e now p (leaf_moves id l answer d stands how h f) =
    subst (Both (KeepsPlaceIn b)) (sym f)
    (decision_both (KeepsPlaceIn b) (place_on b) b (put_leaf l.id (at_time now b)) answer d
    (λ c. stays_put b (put_leaf l.id (at_time now b) c.item) refl refl refl) (as_it_was b))
place_both b e now p (activity_moves id a answer d stands how h f) =
    subst (Both (KeepsPlaceIn b)) (sym f)
    (decision_both (KeepsPlaceIn b) (place_on b) b (put_activity a.id (at_time now b)) answer d
    (λ c. stays_put b (put_activity a.id (at_time now b) c.item) refl refl refl) (as_it_was b))
place_both b e now p (transaction_registers id a r t stands came at says h f) =
    subst (Both (KeepsPlaceIn b)) (sym f)
    (plain_both (KeepsPlaceIn b) (registration_outcome b now (on_register (moment_of b now) a r t))
    (stays_put b (registration_outcome b now (on_register (moment_of b now) a r t)).book refl refl refl))
place_both b e now p (transaction_made a c id t os came at says next made sent h f) =
    subst (Both (KeepsPlaceIn b)) (sym f)
    (plain_both (KeepsPlaceIn b) (still (make_transaction (at_time now b) t) os) (draws_one b (make_transaction (at_time now b) t) refl refl refl))
place_both b e now p (leaf_made a w id l os came at says next made sent h f) =
    subst (Both (KeepsPlaceIn b)) (sym f)
    (plain_both (KeepsPlaceIn b) (still (make_leaf (at_time now b) l) os) (draws_one b (make_leaf (at_time now b) l) refl refl refl))
place_both b e now p (activity_made id a os next made h f) =
    subst (Both (KeepsPlaceIn b)) (sym f)
    (plain_both (KeepsPlaceIn b) (still (make_activity (at_time now b) a) os) (draws_one b (make_activity (at_time now b) a) refl refl refl))

pub steps_keep_place : StepsKeepPlace
unfolding KeepsPlaceIn
steps_keep_place b e now landed = in_branch (KeepsPlaceIn b) (plan b e now) landed (place_both b e now (plan b e now) (steps_touch_one b e now))
