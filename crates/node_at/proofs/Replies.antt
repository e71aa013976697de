-- How each plan answers.
use Rattle.std.proofs.Common.{ℕ, List, [], ◌∷◌, ◌++◌, inl, inr, Bool, true, false, not, ◌&&◌, nat_lt, bytes_eq, Option, Some, None, refl, map, length, if◌then◌else◌}
use Rattle.at_base.specs.declared.limits.TheConstants.{MOST_ITEMS}
use Rattle.at_base.specs.declared.fault.Fault.{Fault}
use Rattle.at_base.specs.declared.fault.Fault.TheVariants.{CannotCreateContext, CannotRegisterParticipant, InvalidParameters, InvalidProtocol}
use Rattle.at_base.specs.Numbers.{Numbers}
use Rattle.at_base.specs.declared.epr.Epr.{Epr}
use Rattle.at_base.specs.declared.epr.Reply.{Reply}
use Rattle.at_base.specs.declared.epr.Reply.TheVariants as replies
use Rattle.at_base.specs.declared.notice.Kind.{Kind}
use Rattle.at_base.specs.declared.notice.Notice.{Notice}
use Rattle.at_base.specs.declared.message.Message.{Message}
use Rattle.at_base.specs.declared.message.Message.TheVariants as messages
use Rattle.at_base.specs.declared.message.Context.{Context}
use Rattle.at_base.specs.declared.message.Create.{Create}
use Rattle.at_base.specs.declared.message.Register.{Register}
use Rattle.at_base.specs.declared.message.Work.{Work}
use Rattle.at_base.specs.declared.target.Target.{Target}
use Rattle.at_base.specs.declared.target.Target.TheVariants as targets
use Rattle.at_base.specs.declared.event.Arrived.{Arrived}
use Rattle.at_base.specs.declared.event.Moment.{Moment}
use Rattle.at_base.specs.declared.event.Item.{Item}
use Rattle.at_base.specs.declared.event.Item.TheVariants as items
use Rattle.at_base.specs.declared.event.Event.TheVariants as events
use Rattle.at_base.specs.declared.outs.Post.{Post}
use Rattle.at_base.specs.declared.outs.Out.{Out}
use Rattle.at_base.specs.declared.outs.Out.TheVariants as outs
use Rattle.at_tables.specs.declared.cells.Cell.{Cell}
use Rattle.at_tables.specs.declared.cells.State.TheVariants as states
use Rattle.at_base.specs.Names.{is_kind}
use Rattle.at_tables.specs.Tables.{participant_of, completion_of, coordinator_of, initiator_of}
use Rattle.at_model.specs.Book.{Book, Transaction, Leaf, Activity, Enlistment, Completion, Superior, next_id}
use Rattle.endpoints.specs.Addresses.{atomic}
use Rattle.at_model.specs.Posts.{accepted, replied, faulted}
use Rattle.at_model.specs.Moves.{Decision}
use Rattle.at_model.specs.Moves.Decision.{Goes, Records}
use Rattle.at_model.specs.Register.{protocol_named, Registration, seat_endpoint, completion_endpoint, may_register, is_late, new_seat, late_prepare, accept, refuse_register, register_new, register_again, held_seat, on_register, register_unknown}
use Rattle.at_model.specs.Create.{new_root, Creation, refuse_create, create_under, create_in, on_create}
use Rattle.at_model.specs.Arrivals.{on_link, on_seat, on_completion, context_of, with_answer}
use Rattle.at_model.specs.Leaves.{on_leaf, Employment, refuse_work, work_for, on_work}
use Rattle.at_model.specs.Activities.{on_activity}
use Rattle.at_model.specs.Due.{transaction_due, transaction_reached, leaf_due, leaf_reached, activity_due, activity_reached}
use Rattle.at_model.specs.Step.{Plan, plain, still, at_time, moment_of, put_transaction, put_leaf, put_activity, plan_of, leaf_plan, stranger_cell, nothing, stranger_plan, created_plan, activation_plan, registration_plan, completion_seat_plan, completion_plan, find_seat, seat_plan, coordinator_plan, leaf_or_stranger_plan, link_plan, participant_plan, initiator_plan, employed_plan, work_plan, transaction_at, leaf_at, activity_at, arrived_plan, transaction_due_plan, leaf_due_plan, activity_due_plan, due_plan, plan, outcome_cell, outcome_plan, seatless_plan, has_committed}
use Rattle.model_laws.specs.Laws.{ArePosts}
use Rattle.node_at.specs.Replies.{IsReply, StepsReply}

are_posts : (ps : List Post) → ArePosts (map outs.Post ps)
are_posts [] = tt
are_posts (p ∷ ps) = are_posts ps

behind_accepted : (ps : List Post) → IsReply (accepted ++ map outs.Post ps)
behind_accepted ps = (inr (inl refl), are_posts ps)

replied_so : (r : Reply) (id : Option (List ℕ)) (x : Message) (more : List Out) → ArePosts more → IsReply (replied r id x ++ more)
replied_so replies.Anonymous id x more h = (inl refl, h)
replied_so replies.Nobody id x more h = (inr (inl refl), h)
replied_so (replies.At to) id x more h = (inr (inl refl), h)

replied_alone : (r : Reply) (id : Option (List ℕ)) (x : Message) → IsReply (replied r id x)
replied_alone replies.Anonymous id x = (inl refl, tt)
replied_alone replies.Nobody id x = (inr (inl refl), tt)
replied_alone (replies.At to) id x = (inr (inl refl), tt)

faulted_so : (r : Reply) (id : Option (List ℕ)) (drawn : Fault) → IsReply (faulted r id drawn)
faulted_so replies.Anonymous id drawn = (inr (inr refl), tt)
faulted_so replies.Nobody id drawn = (inr (inl refl), tt)
faulted_so (replies.At to) id drawn = (inr (inl refl), tt)

late_posts : (m : Moment) (id : Numbers) (late : Bool) (s : Enlistment) → ArePosts (late_prepare m id late s)
late_posts m id true s = tt
late_posts m id false s = tt

-- both branches
record Both (P : List Out → Type 0) (p : Plan) : Type 0 where
  landed : P p.landed.outs
  absent : P p.absent.outs

both : {P : List Out → Type 0} (os : List Out) (b : Book) → P os → Both P (plain (still b os))
both os b h = record { landed = h; absent = h }

moved : {A : Type 0} (b : Book) (put : Option A → Book) (d : Decision A) → Both IsReply (plan_of b put accepted d)
moved b put (Goes c) = record { landed = behind_accepted c.posts; absent = behind_accepted c.posts }
moved b put (Records r c None) = record { landed = behind_accepted c.posts; absent = (inr (inl refl), tt) }
moved b put (Records r c (Some x)) = record { landed = behind_accepted c.posts; absent = behind_accepted x.posts }

unanswered : {A : Type 0} (b : Book) (put : Option A → Book) (d : Decision A) → Both ArePosts (plan_of b put [] d)
unanswered b put (Goes c) = record { landed = are_posts c.posts; absent = are_posts c.posts }
unanswered b put (Records r c None) = record { landed = are_posts c.posts; absent = tt }
unanswered b put (Records r c (Some x)) = record { landed = are_posts c.posts; absent = are_posts x.posts }

-- registration
accept_so : (m : Moment) (a : Arrived) (t : Transaction) (participant : Epr) (kind : Option Kind) → IsReply (accept m a t participant kind).outs
unfolding accept
accept_so m a t participant (Some kind) =
    replied_so a.reply a.id (messages.RegisterResponse (seat_endpoint m.base t.id (new_seat t participant kind)))
    (late_prepare m t.id (is_late t.phase kind) (new_seat t participant kind))
    (late_posts m t.id (is_late t.phase kind) (new_seat t participant kind))
accept_so m a t participant None = replied_alone a.reply a.id (messages.RegisterResponse (completion_endpoint m.base t.id))

either : (b : Bool) (x y : Registration) → IsReply x.outs → IsReply y.outs → IsReply (if b then x else y).outs
either true x y h k = h
either false x y h k = k

register_new_so : (m : Moment) (a : Arrived) (r : Register) (t : Transaction) (kind : Option (Option Kind)) → IsReply (register_new m a r t kind).outs
unfolding register_new
register_new_so m a r t None = faulted_so a.fault a.id InvalidProtocol
register_new_so m a r t (Some kind) =
    either (not a.postable) (refuse_register a t InvalidParameters)
    (if may_register t kind then accept m a t r.participant kind else refuse_register a t CannotRegisterParticipant)
    (faulted_so a.fault a.id InvalidParameters)
    (either (may_register t kind) (accept m a t r.participant kind) (refuse_register a t CannotRegisterParticipant)
    (accept_so m a t r.participant kind) (faulted_so a.fault a.id CannotRegisterParticipant))

register_again_so : (m : Moment) (a : Arrived) (r : Register) (t : Transaction) (kind : Option (Option Kind)) (held : Option Epr)
    → IsReply (register_again m a r t kind held).outs
unfolding register_again
register_again_so m a r t kind (Some coordinator) = replied_alone a.reply a.id (messages.RegisterResponse coordinator)
register_again_so m a r t kind None = register_new_so m a r t kind

register_so : (m : Moment) (a : Arrived) (r : Register) (t : Transaction) → IsReply (on_register m a r t).outs
unfolding on_register
register_so m a r t = register_again_so m a r t (protocol_named r.protocol) (held_seat m r t (protocol_named r.protocol))

register_unknown_so : (a : Arrived) (r : Register) (kind : Option (Option Kind)) → IsReply (register_unknown a r kind)
unfolding register_unknown
register_unknown_so a r None = faulted_so a.fault a.id InvalidProtocol
register_unknown_so a r (Some kind) = faulted_so a.fault a.id (if a.postable then CannotRegisterParticipant else InvalidParameters)

-- creation
either_creation : (b : Bool) (x y : Creation) → IsReply x.outs → IsReply y.outs → IsReply (if b then x else y).outs
either_creation true x y h k = h
either_creation false x y h k = k

create_under_so : (m : Moment) (id : Numbers) (a : Arrived) (c : Create) (current : Context) (r : Reply) → IsReply (create_under m id a c current r).outs
unfolding create_under
create_under_so m id a c current (replies.At reply) = (inr (inl refl), tt)
create_under_so m id a c current replies.Anonymous = faulted_so a.fault a.id CannotCreateContext
create_under_so m id a c current replies.Nobody = faulted_so a.fault a.id CannotCreateContext

create_in_so : (m : Moment) (id : Numbers) (a : Arrived) (c : Create) (current : Option Context) → IsReply (create_in m id a c current).outs
unfolding create_in
create_in_so m id a c None = replied_alone a.reply a.id (messages.CreateResponse (context_of m.base (new_root m id c) c.expires))
create_in_so m id a c (Some current) = create_under_so m id a c current a.reply

create_so : (m : Moment) (live : ℕ) (a : Arrived) (c : Create) (next : Option Numbers) → IsReply (on_create m live a c next).outs
unfolding on_create
create_so m live a c None = faulted_so a.fault a.id CannotCreateContext
create_so m live a c (Some id) =
    either_creation (bytes_eq c.coordination atomic && nat_lt live MOST_ITEMS) (create_in m id a c c.current) (refuse_create a)
    (create_in_so m id a c c.current) (faulted_so a.fault a.id CannotCreateContext)

-- work
either_work : (b : Bool) (x y : Employment) → IsReply x.outs → IsReply y.outs → IsReply (if b then x else y).outs
either_work true x y h k = h
either_work false x y h k = k

work_for_so : (m : Moment) (id : Numbers) (a : Arrived) (w : Work) (r : Reply) → IsReply (work_for m id a w r).outs
work_for_so m id a w (replies.At reply) = (inr (inl refl), tt)
work_for_so m id a w replies.Anonymous = replied_alone a.reply a.id messages.WorkRefused
work_for_so m id a w replies.Nobody = replied_alone a.reply a.id messages.WorkRefused

work_so : (m : Moment) (live : ℕ) (a : Arrived) (w : Work) (next : Option Numbers) → IsReply (on_work m live a w next).outs
unfolding on_work
work_so m live a w None = replied_alone a.reply a.id messages.WorkRefused
work_so m live a w (Some id) =
    either_work (nat_lt live MOST_ITEMS) (work_for m id a w a.reply) (refuse_work a)
    (work_for_so m id a w a.reply) (replied_alone a.reply a.id messages.WorkRefused)

-- each plan
accepted_so : (b : Book) (ps : List Post) → Both IsReply (plain (still b (accepted ++ map outs.Post ps)))
accepted_so b ps = both (accepted ++ map outs.Post ps) b (behind_accepted ps)

nothing_so : (b : Book) (now : ℕ) → Both IsReply (nothing b now)
nothing_so b now = accepted_so (at_time now b) []

stranger_so : (b : Book) (now : ℕ) (a : Arrived) (table : Notice → Option Cell) (x : Message) → Both IsReply (stranger_plan b now a table x)
stranger_so b now a table (messages.Notice n) = accepted_so (at_time now b) (stranger_cell b.base a.target a.from a.id (table n))
stranger_so b now a table (messages.Create c) = nothing_so b now
stranger_so b now a table (messages.CreateResponse c) = nothing_so b now
stranger_so b now a table (messages.Register c) = nothing_so b now
stranger_so b now a table (messages.RegisterResponse c) = nothing_so b now
stranger_so b now a table (messages.Work c) = nothing_so b now
stranger_so b now a table messages.WorkDone = nothing_so b now
stranger_so b now a table messages.WorkRefused = nothing_so b now
stranger_so b now a table (messages.Fault name) = nothing_so b now

outcome_so : (b : Book) (now : ℕ) (a : Arrived) (x : Message) → Both IsReply (outcome_plan b now a x)
outcome_so b now a (messages.Notice n) = accepted_so (at_time now b) (outcome_cell b.base a.target a.from a.id (completion_of states.Done n))
outcome_so b now a (messages.Create c) = nothing_so b now
outcome_so b now a (messages.CreateResponse c) = nothing_so b now
outcome_so b now a (messages.Register c) = nothing_so b now
outcome_so b now a (messages.RegisterResponse c) = nothing_so b now
outcome_so b now a (messages.Work c) = nothing_so b now
outcome_so b now a messages.WorkDone = nothing_so b now
outcome_so b now a messages.WorkRefused = nothing_so b now
outcome_so b now a (messages.Fault name) = nothing_so b now

created_so : (b : Book) (now : ℕ) (t : Option Transaction) (os : List Out) → IsReply os → Both IsReply (created_plan b now t os)
created_so b now None os h = record { landed = h; absent = h }
created_so b now (Some t) os h = record { landed = h; absent = h }

activation_so : (b : Book) (now : ℕ) (a : Arrived) (x : Message) → Both IsReply (activation_plan b now a x)
unfolding activation_plan
activation_so b now a (messages.Create c) =
    created_so b now (on_create (moment_of b now) (length b.transactions) a c (next_id b)).transaction
    (on_create (moment_of b now) (length b.transactions) a c (next_id b)).outs
    (create_so (moment_of b now) (length b.transactions) a c (next_id b))
activation_so b now a (messages.Notice n) = nothing_so b now
activation_so b now a (messages.CreateResponse c) = nothing_so b now
activation_so b now a (messages.Register c) = nothing_so b now
activation_so b now a (messages.RegisterResponse c) = nothing_so b now
activation_so b now a (messages.Work c) = nothing_so b now
activation_so b now a messages.WorkDone = nothing_so b now
activation_so b now a messages.WorkRefused = nothing_so b now
activation_so b now a (messages.Fault name) = nothing_so b now

registration_so : (b : Book) (now : ℕ) (a : Arrived) (x : Message) (t : Option Transaction) → Both IsReply (registration_plan b now a x t)
unfolding registration_plan
registration_so b now a (messages.Register r) None = both (register_unknown a r (protocol_named r.protocol)) (at_time now b) (register_unknown_so a r (protocol_named r.protocol))
registration_so b now a (messages.Register r) (Some t) = record { landed = register_so (moment_of b now) a r t; absent = register_so (moment_of b now) a r t }
registration_so b now a (messages.Notice n) t = nothing_so b now
registration_so b now a (messages.Create c) t = nothing_so b now
registration_so b now a (messages.CreateResponse c) t = nothing_so b now
registration_so b now a (messages.RegisterResponse c) t = nothing_so b now
registration_so b now a (messages.Work c) t = nothing_so b now
registration_so b now a messages.WorkDone t = nothing_so b now
registration_so b now a messages.WorkRefused t = nothing_so b now
registration_so b now a (messages.Fault name) t = nothing_so b now

seatless_so : (b : Book) (now : ℕ) (a : Arrived) (committed : Bool) → Both IsReply (seatless_plan b now a committed)
seatless_so b now a true = outcome_so b now a a.message
seatless_so b now a false = stranger_so b now a (completion_of states.None) a.message

completion_seat_so : (b : Book) (now : ℕ) (a : Arrived) (committed : Bool) (t : Transaction) (c : Option Completion) → Both IsReply (completion_seat_plan b now a committed t c)
completion_seat_so b now a committed t None = seatless_so b now a committed
completion_seat_so b now a committed t (Some c) = moved b (put_transaction t.id (at_time now b)) (with_answer (moment_of b now) t (on_completion (moment_of b now) a t c a.message))

completion_so : (b : Book) (now : ℕ) (a : Arrived) (committed : Bool) (t : Option Transaction) → Both IsReply (completion_plan b now a committed t)
unfolding completion_plan
completion_so b now a committed None = seatless_so b now a committed
completion_so b now a committed (Some t) = completion_seat_so b now a committed t t.completion

seat_so : (b : Book) (now : ℕ) (a : Arrived) (kind : Kind) (t : Transaction) (s : Option Enlistment) → Both IsReply (seat_plan b now a kind t s)
seat_so b now a kind t None = stranger_so b now a (coordinator_of kind states.None) a.message
seat_so b now a kind t (Some s) = moved b (put_transaction t.id (at_time now b)) (with_answer (moment_of b now) t (on_seat (moment_of b now) a t s a.message))

coordinator_so : (b : Book) (now : ℕ) (a : Arrived) (number : ℕ) (kind : Kind) (t : Option Transaction) → Both IsReply (coordinator_plan b now a number kind t)
unfolding coordinator_plan
coordinator_so b now a number kind None = stranger_so b now a (coordinator_of kind states.None) a.message
coordinator_so b now a number kind (Some t) = seat_so b now a kind t (find_seat number kind t.seats)

of_kind : (b : Book) (now : ℕ) (a : Arrived) (kind : Kind) (l : Leaf) (same : Bool)
    → Both IsReply (if same then leaf_plan b now accepted l (on_leaf (moment_of b now) a l a.message) else stranger_plan b now a (participant_of kind states.None) a.message)
of_kind b now a kind l true = moved b (put_leaf l.id (at_time now b)) (on_leaf (moment_of b now) a l a.message)
of_kind b now a kind l false = stranger_so b now a (participant_of kind states.None) a.message

leaf_so : (b : Book) (now : ℕ) (a : Arrived) (kind : Kind) (l : Option Leaf) → Both IsReply (leaf_or_stranger_plan b now a kind l)
leaf_so b now a kind None = stranger_so b now a (participant_of kind states.None) a.message
leaf_so b now a kind (Some l) = of_kind b now a kind l (is_kind l.kind kind)

link_so : (b : Book) (now : ℕ) (a : Arrived) (kind : Kind) (t : Transaction) (s : Option Superior) → Both IsReply (link_plan b now a kind t s)
link_so b now a kind t None = stranger_so b now a (participant_of kind states.None) a.message
link_so b now a kind t (Some s) = moved b (put_transaction t.id (at_time now b)) (with_answer (moment_of b now) t (on_link (moment_of b now) a kind t s a.message))

participant_so : (b : Book) (now : ℕ) (a : Arrived) (kind : Kind) (t : Option Transaction) (l : Option Leaf) → Both IsReply (participant_plan b now a kind t l)
unfolding participant_plan
participant_so b now a kind (Some t) l = link_so b now a kind t t.superior
participant_so b now a kind None l = leaf_so b now a kind l

initiator_so : (b : Book) (now : ℕ) (a : Arrived) (x : Option Activity) → Both IsReply (initiator_plan b now a x)
unfolding initiator_plan
initiator_so b now a None = stranger_so b now a (initiator_of states.None) a.message
initiator_so b now a (Some x) = moved b (put_activity x.id (at_time now b)) (on_activity (moment_of b now) a x a.message)

employed_so : (b : Book) (now : ℕ) (l : Option Leaf) (os : List Out) → IsReply os → Both IsReply (employed_plan b now l os)
employed_so b now None os h = record { landed = h; absent = h }
employed_so b now (Some l) os h = record { landed = h; absent = h }

work_plan_so : (b : Book) (now : ℕ) (a : Arrived) (x : Message) → Both IsReply (work_plan b now a x)
unfolding work_plan
work_plan_so b now a (messages.Work w) =
    employed_so b now (on_work (moment_of b now) (length b.leaves) a w (next_id b)).leaf (on_work (moment_of b now) (length b.leaves) a w (next_id b)).outs
    (work_so (moment_of b now) (length b.leaves) a w (next_id b))
work_plan_so b now a (messages.Notice n) = nothing_so b now
work_plan_so b now a (messages.Create c) = nothing_so b now
work_plan_so b now a (messages.CreateResponse c) = nothing_so b now
work_plan_so b now a (messages.Register c) = nothing_so b now
work_plan_so b now a (messages.RegisterResponse c) = nothing_so b now
work_plan_so b now a messages.WorkDone = nothing_so b now
work_plan_so b now a messages.WorkRefused = nothing_so b now
work_plan_so b now a (messages.Fault name) = nothing_so b now

arrived_so : (b : Book) (now : ℕ) (a : Arrived) (target : Target) → Both IsReply (arrived_plan b now a target)
unfolding arrived_plan
arrived_so b now a targets.Activation = activation_so b now a a.message
arrived_so b now a (targets.Registration id) = registration_so b now a a.message (transaction_at b id)
arrived_so b now a (targets.Completion id) = completion_so b now a (has_committed b id) (transaction_at b id)
arrived_so b now a (targets.Coordinator id seat) = coordinator_so b now a seat.number seat.kind (transaction_at b id)
arrived_so b now a (targets.Participant id kind) = participant_so b now a kind (transaction_at b id) (leaf_at b id)
arrived_so b now a (targets.Initiator id) = initiator_so b now a (activity_at b id)
arrived_so b now a targets.Work = work_plan_so b now a a.message

-- what is due
no_out : (b : Book) → Both ArePosts (plain (still b []))
no_out b = record { landed = tt; absent = tt }

transaction_due_so : (b : Book) (now : ℕ) (t : Option Transaction) → Both ArePosts (transaction_due_plan b now t)
transaction_due_so b now None = no_out b
transaction_due_so b now (Some t) =
    unanswered b (put_transaction t.id (at_time now b)) (with_answer (moment_of b now) t (transaction_reached (moment_of b now) t (transaction_due (moment_of b now) t)))

leaf_due_so : (b : Book) (now : ℕ) (l : Option Leaf) → Both ArePosts (leaf_due_plan b now l)
leaf_due_so b now None = no_out b
leaf_due_so b now (Some l) = unanswered b (put_leaf l.id (at_time now b)) (leaf_reached (moment_of b now) l (leaf_due (moment_of b now) l))

activity_due_so : (b : Book) (now : ℕ) (a : Option Activity) → Both ArePosts (activity_due_plan b now a)
activity_due_so b now None = no_out b
activity_due_so b now (Some a) = unanswered b (put_activity a.id (at_time now b)) (activity_reached (moment_of b now) a (activity_due (moment_of b now) a))

due_so : (b : Book) (now : ℕ) (item : Item) → Both ArePosts (due_plan b now item)
unfolding due_plan
due_so b now (items.Transaction id) = transaction_due_so b now (transaction_at b id)
due_so b now (items.Leaf id) = leaf_due_so b now (leaf_at b id)
due_so b now (items.Activity id) = activity_due_so b now (activity_at b id)

in_branch : {P : List Out → Type 0} (p : Plan) (landed : Bool) → Both P p → P (if landed then p.landed else p.absent).outs
in_branch p true h = h.landed
in_branch p false h = h.absent

pub steps_reply : StepsReply
steps_reply = record {
  arrived = λ b a now landed. in_branch (plan b (events.Arrived a) now) landed (arrived_so b now a a.target);
  ticks = λ b now landed. in_branch (plan b events.Tick now) landed (nothing_so b now);
  due = λ b item now landed. in_branch (plan b (events.Due item) now) landed (due_so b now item);
}
