-- What is done to the transactions is what the model's plan of the book does to them.
use Rattle.std.proofs.Common.{ℕ, List, [], ◌∷◌, ◌++◌, Option, Some, None, Bool, true, false, nat_lt, length, bytes_eq, ◌≡◌, refl, sym, ap, subst, ◌∙◌, IfOk, Result, Ok, Err}
use Rattle.std.specs.Prelude.{if◌then◌else◌}
use Rattle.at_base.specs.declared.limits.TheConstants.{MOST_ITEMS}
use Rattle.at_base.specs.Numbers.{Numbers}
use Rattle.at_base.specs.declared.epr.Reply.{Reply}
use Rattle.at_base.specs.declared.epr.Reply.TheVariants as replies
use Rattle.at_base.specs.declared.notice.Kind.{Kind}
use Rattle.at_base.specs.declared.message.Context.{Context}
use Rattle.at_base.specs.declared.message.Create.{Create}
use Rattle.at_base.specs.declared.message.Message.TheVariants as messages
use Rattle.at_base.specs.declared.message.Register.{Register}
use Rattle.at_base.specs.declared.event.Arrived.{Arrived}
use Rattle.at_base.specs.declared.event.Moment.{Moment}
use Rattle.at_base.specs.declared.outs.Out.{Out}
use Rattle.endpoints.specs.Addresses.{atomic}
use Rattle.at_model.specs.Arrivals.{on_completion, on_link, on_seat, with_answer}
use Rattle.at_model.specs.Book.{Book, Completion, Enlistment, Superior, Transaction, find_by, last_counter, next_id, put_by, transaction_id}
use Rattle.at_model.specs.Create.{Creation, create_in, create_under, on_create}
use Rattle.at_model.specs.Due.{transaction_due, transaction_reached}
use Rattle.at_model.specs.Moves.{Decision}
use Rattle.at_model.specs.Posts.{accepted}
use Rattle.at_model.specs.Register.{on_register, protocol_named, register_unknown}
use Rattle.at_model.specs.Step.{Plan, activation_plan, at_time, completion_plan, completion_seat_plan, coordinator_plan, created_plan, find_seat, link_plan, moment_of, plain, plan_of, put_transaction, registration_outcome, registration_plan, seat_plan, seatless_plan, still, stranger_plan, transaction_at, transaction_due_plan, transaction_plan}
use Rattle.at_posts.proofs.Counters.{counts}
use Rattle.at_tables.specs.Tables.{coordinator_of, participant_of}
use Rattle.at_tables.specs.declared.cells.State.TheVariants as states
use Rattle.by_id.specs.Lists.{move_by}
use Rattle.by_id.specs.Plans.{chosen}
use Rattle.by_id.specs.declared.fates.Choice.{Choice}
use Rattle.by_id.specs.declared.plan.Plan.{Plan as Planned}
use Rattle.by_id.proofs.Found.{chosen_so, found_id, moved_found, put_found}
use Rattle.coordinator_at.specs.Registrations.{registered, registration_of}
use Rattle.coordinator_at.specs.declared.register.Registered.{Registered}
use Rattle.transaction_at.specs.Rooms.{has_room}
use Rattle.transaction_at.specs.declared.moves.Move.TheVariants as moves_of
use Rattle.transaction_at.specs.Moves.{meant, moved, sent_or}
use Rattle.transaction_at.specs.declared.moves.Move.{Move}
use Rattle.coordinator_at.specs.TransactionPlans.{Holds, created, whole, with_transactions}

here : (b : Book) (now : ℕ) (ts : List Transaction) (m : Moment) (id : Numbers) (t : Option Transaction) → Holds b now ts m → find_by transaction_id id ts ≡ t → transaction_at b id ≡ t
here b now ts m id t holds found = ap (find_by transaction_id id) holds.0 ∙ found

-- a transaction that was found is put, and moved, where it stands
put_same : (b : Book) (id : Numbers) (t : Transaction) → transaction_at b id ≡ Some t → put_by transaction_id t.id (Some t) b.transactions ≡ b.transactions
put_same b id t e = subst (λ k. put_by transaction_id k (Some t) b.transactions ≡ b.transactions) (sym (found_id transaction_id id t b.transactions e)) (put_found transaction_id id t b.transactions e)

moved_same : (b : Book) (id : Numbers) (by : Move) (t : Transaction) → transaction_at b id ≡ Some t → move_by transaction_id moved t.id by b.transactions ≡ put_by transaction_id t.id (Some (moved by t)) b.transactions
moved_same b id by t e =
    subst (λ k. move_by transaction_id moved k by b.transactions ≡ put_by transaction_id k (Some (moved by t)) b.transactions) (sym (found_id transaction_id id t b.transactions e)) (moved_found transaction_id moved id by t b.transactions e)

-- what is chosen for the transaction that was found
decides : (b : Book) (now : ℕ) (answer : List Out) (id : Numbers) (t : Transaction) (c : Choice Transaction Move) → transaction_at b id ≡ Some t
    → whole b now (chosen answer t.id c) ≡ plan_of b (put_transaction t.id (at_time now b)) answer (meant (Some t) c)
decides b now answer id t c e =
    chosen_so moved with_transactions put_transaction (λ k. refl) (λ k o x. refl) b now answer t.id t c
    (ap (λ ts. record (at_time now b) { transactions = ts }) (put_same b id t e), λ by. ap (λ ts. record (at_time now b) { transactions = ts }) (moved_same b id by t e))

-- the same, with the answer that is still waited for
pub moves : {E : Type 0} (b : Book) (now : ℕ) (answer : List Out) (m : Moment) (id own : Numbers) (t : Transaction) (d : Decision Transaction) (c : Choice Transaction Move) (r : Result (Planned Transaction Move) E) → m ≡ moment_of b now
    → transaction_at b id ≡ Some t → own ≡ t.id → meant (Some t) c ≡ with_answer m t d → IfOk r (λ plan. plan ≡ chosen answer own c) → IfOk r (λ plan. whole b now plan ≡ transaction_plan b now answer t d)
moves b now answer m id own t d c (Ok plan) same found named chose planned =
    ap (whole b now) (planned ∙ ap (λ k. chosen answer k c) named) ∙ decides b now answer id t c found
    ∙ ap (plan_of b (put_transaction t.id (at_time now b)) answer) (chose ∙ ap (λ k. with_answer k t d) same)
moves b now answer m id own t d c (Err e) same found named chose planned = planned

-- what became of a CreateCoordinationContext
abbrev Creates : Book → ℕ → Creation → Type 0
Creates b now e = whole b now (created e) ≡ created_plan b now e.transaction e.outs

creates_under : (b : Book) (now : ℕ) (m : Moment) (id : Numbers) (a : Arrived) (c : Create) (current : Context) (reply : Reply) → nat_lt b.counter last_counter ≡ true → nat_lt (length b.transactions) MOST_ITEMS ≡ true
    → Creates b now (create_under m id a c current reply)
unfolding create_under
creates_under b now m id a c current (replies.At to) e f = rw e (rw f refl)
creates_under b now m id a c current replies.Anonymous e f = refl
creates_under b now m id a c current replies.Nobody e f = refl

creates_in : (b : Book) (now : ℕ) (m : Moment) (id : Numbers) (a : Arrived) (c : Create) (current : Option Context) → nat_lt b.counter last_counter ≡ true → nat_lt (length b.transactions) MOST_ITEMS ≡ true
    → Creates b now (create_in m id a c current)
unfolding create_in
creates_in b now m id a c None e f = rw e (rw f refl)
creates_in b now m id a c (Some current) e f = creates_under b now m id a c current a.reply e f

creates_if : (b : Book) (now : ℕ) (m : Moment) (id : Numbers) (a : Arrived) (c : Create) (same few : Bool) → bytes_eq c.coordination atomic ≡ same → nat_lt b.counter last_counter ≡ true
    → nat_lt (length b.transactions) MOST_ITEMS ≡ few → Creates b now (on_create m (length b.transactions) a c (Some id))
unfolding on_create
creates_if b now m id a c true true s e f = rw s (rw f (creates_in b now m id a c c.current e f))
creates_if b now m id a c true false s e f = rw s (rw f refl)
creates_if b now m id a c false few s e f = rw s refl

creates_next : (b : Book) (now : ℕ) (m : Moment) (a : Arrived) (c : Create) (next : Option Numbers) → next_id b ≡ next → Creates b now (on_create m (length b.transactions) a c next)
unfolding on_create
creates_next b now m a c None e = refl
creates_next b now m a c (Some id) e = creates_if b now m id a c (bytes_eq c.coordination atomic) (nat_lt (length b.transactions) MOST_ITEMS) refl (counts b id e) refl

pub creates : (b : Book) (now : ℕ) (ts : List Transaction) (m : Moment) (a : Arrived) (c : Create) (plan : Planned Transaction Move) → Holds b now ts m → plan ≡ created (on_create m (length ts) a c m.next)
    → whole b now plan ≡ activation_plan b now a (messages.Create c)
unfolding activation_plan
creates b now ts m a c plan holds e =
    ap (whole b now) (e ∙ λ i. created (on_create (holds.1 i) (length (sym holds.0 i)) a c (ap (λ (k : Moment). k.next) holds.1 i)))
    ∙ creates_next b now (moment_of b now) a c (next_id b) refl

-- Register
moved_id : (by : Move) (t : Transaction) → (moved by t).id ≡ t.id
moved_id (moves_of.Seat number state) t = refl
moved_id (moves_of.Sent now) t = refl
moved_id (moves_of.Enlisted s sent room) t = either (has_room room t.seats)
  where
    either : (b : Bool) → (if b then record t { seats = t.seats ++ s ∷ []; sent = sent_or sent t.sent } else t).id ≡ t.id
    either true = refl
    either false = refl
moved_id (moves_of.Initiator completion) t = refl
moved_id (moves_of.Changed changes) t = refl

registers_at : (b : Book) (now : ℕ) (id : Numbers) (t : Transaction) (g : Registered) → transaction_at b id ≡ Some t → whole b now (registered t.id g) ≡ plain (registration_outcome b now (registration_of t g))
registers_at b now id t g e = by g.change
  where
    by : (o : Option Move) → whole b now (registered t.id (record g { change = o })) ≡ plain (registration_outcome b now (registration_of t (record g { change = o })))
    by None = ap (λ ts. plain (still (record (at_time now b) { transactions = ts }) g.outs)) (sym (put_same b id t e))
    by (Some m) =
        ap (λ ts. plain (still (record (at_time now b) { transactions = ts }) g.outs))
        (moved_same b id m t e ∙ ap (λ k. put_by transaction_id k (Some (moved m t)) b.transactions) (sym (moved_id m t)))

pub registers : (b : Book) (now : ℕ) (ts : List Transaction) (m : Moment) (a : Arrived) (r : Register) (id : Numbers) (t : Transaction) (g : Registered) (plan : Planned Transaction Move) → Holds b now ts m → find_by transaction_id id ts ≡ Some t
    → registration_of t g ≡ on_register m a r t → plan ≡ registered t.id g → whole b now plan ≡ registration_plan b now a (messages.Register r) (transaction_at b id)
unfolding registration_plan
registers b now ts m a r id t g plan holds found given e =
    ap (whole b now) e ∙ registers_at b now id t g (here b now ts m id (Some t) holds found)
    ∙ ap (λ k. plain (registration_outcome b now k)) (given ∙ ap (λ k. on_register k a r t) holds.1)
    ∙ sym (ap (registration_plan b now a (messages.Register r)) (here b now ts m id (Some t) holds found))

pub registers_none : (b : Book) (now : ℕ) (ts : List Transaction) (m : Moment) (a : Arrived) (r : Register) (id : Numbers) → Holds b now ts m → find_by transaction_id id ts ≡ None
    → plain (still (at_time now b) (register_unknown a r (protocol_named r.protocol))) ≡ registration_plan b now a (messages.Register r) (transaction_at b id)
unfolding registration_plan
registers_none b now ts m a r id holds found = sym (ap (registration_plan b now a (messages.Register r)) (here b now ts m id None holds found))

-- a message at the completion seat
pub completes : (b : Book) (now : ℕ) (ts : List Transaction) (m : Moment) (a : Arrived) (done : Bool) (id : Numbers) (t : Transaction) (c : Completion) (d : Decision Transaction) (plan : Planned Transaction Move)
    → Holds b now ts m → find_by transaction_id id ts ≡ Some t → t.completion ≡ Some c → d ≡ on_completion m a t c a.message
    → whole b now plan ≡ transaction_plan b now accepted t d → whole b now plan ≡ completion_plan b now a done (transaction_at b id)
unfolding completion_plan
completes b now ts m a done id t c d plan holds found seated chose planned =
    planned ∙ ap (transaction_plan b now accepted t) (chose ∙ ap (λ k. on_completion k a t c a.message) holds.1)
    ∙ sym (ap (completion_plan b now a done) (here b now ts m id (Some t) holds found) ∙ ap (completion_seat_plan b now a done t) seated)

pub completes_none : (b : Book) (now : ℕ) (ts : List Transaction) (m : Moment) (a : Arrived) (done : Bool) (id : Numbers) → Holds b now ts m → find_by transaction_id id ts ≡ None
    → seatless_plan b now a done ≡ completion_plan b now a done (transaction_at b id)
unfolding completion_plan
completes_none b now ts m a done id holds found = sym (ap (completion_plan b now a done) (here b now ts m id None holds found))

pub completes_seatless : (b : Book) (now : ℕ) (ts : List Transaction) (m : Moment) (a : Arrived) (done : Bool) (id : Numbers) (t : Transaction) → Holds b now ts m → find_by transaction_id id ts ≡ Some t → t.completion ≡ None
    → seatless_plan b now a done ≡ completion_plan b now a done (transaction_at b id)
unfolding completion_plan
completes_seatless b now ts m a done id t holds found seated =
    sym (ap (completion_plan b now a done) (here b now ts m id (Some t) holds found) ∙ ap (completion_seat_plan b now a done t) seated)

-- a message at a participant's seat
abbrev strange_seat : Book → ℕ → Arrived → Kind → Plan
strange_seat b now a kind = stranger_plan b now a (coordinator_of kind states.None) a.message

pub seats : (b : Book) (now : ℕ) (ts : List Transaction) (m : Moment) (a : Arrived) (id : Numbers) (number : ℕ) (kind : Kind) (t : Transaction) (s : Enlistment) (d : Decision Transaction) (plan : Planned Transaction Move)
    → Holds b now ts m → find_by transaction_id id ts ≡ Some t → find_seat number kind t.seats ≡ Some s → d ≡ on_seat m a t s a.message
    → whole b now plan ≡ transaction_plan b now accepted t d → whole b now plan ≡ coordinator_plan b now a number kind (transaction_at b id)
unfolding coordinator_plan
seats b now ts m a id number kind t s d plan holds found seated chose planned =
    planned ∙ ap (transaction_plan b now accepted t) (chose ∙ ap (λ k. on_seat k a t s a.message) holds.1)
    ∙ sym (ap (coordinator_plan b now a number kind) (here b now ts m id (Some t) holds found) ∙ ap (seat_plan b now a kind t) seated)

pub seats_none : (b : Book) (now : ℕ) (ts : List Transaction) (m : Moment) (a : Arrived) (id : Numbers) (number : ℕ) (kind : Kind) → Holds b now ts m → find_by transaction_id id ts ≡ None
    → strange_seat b now a kind ≡ coordinator_plan b now a number kind (transaction_at b id)
unfolding coordinator_plan
seats_none b now ts m a id number kind holds found = sym (ap (coordinator_plan b now a number kind) (here b now ts m id None holds found))

pub seats_seatless : (b : Book) (now : ℕ) (ts : List Transaction) (m : Moment) (a : Arrived) (id : Numbers) (number : ℕ) (kind : Kind) (t : Transaction) → Holds b now ts m → find_by transaction_id id ts ≡ Some t
    → find_seat number kind t.seats ≡ None → strange_seat b now a kind ≡ coordinator_plan b now a number kind (transaction_at b id)
unfolding coordinator_plan
seats_seatless b now ts m a id number kind t holds found seated =
    sym (ap (coordinator_plan b now a number kind) (here b now ts m id (Some t) holds found) ∙ ap (seat_plan b now a kind t) seated)

-- a message at a link to the superior
pub links : (b : Book) (now : ℕ) (m : Moment) (a : Arrived) (kind : Kind) (t : Transaction) (s : Superior) (d : Decision Transaction) (plan : Planned Transaction Move)
    → m ≡ moment_of b now → t.superior ≡ Some s → d ≡ on_link m a kind t s a.message
    → whole b now plan ≡ transaction_plan b now accepted t d → whole b now plan ≡ link_plan b now a kind t t.superior
links b now m a kind t s d plan same linked chose planned =
    planned ∙ ap (transaction_plan b now accepted t) (chose ∙ ap (λ k. on_link k a kind t s a.message) same)
    ∙ sym (ap (link_plan b now a kind t) linked)

pub links_none : (b : Book) (now : ℕ) (a : Arrived) (kind : Kind) (t : Transaction) → t.superior ≡ None → stranger_plan b now a (participant_of kind states.None) a.message ≡ link_plan b now a kind t t.superior
links_none b now a kind t linked = sym (ap (link_plan b now a kind t) linked)

-- one that is asked whether it is due
pub asks : (b : Book) (now : ℕ) (ts : List Transaction) (m : Moment) (id : Numbers) (t : Transaction) (d : Decision Transaction) (plan : Planned Transaction Move) → Holds b now ts m → find_by transaction_id id ts ≡ Some t
    → d ≡ transaction_reached m t (transaction_due m t) → whole b now plan ≡ transaction_plan b now [] t d → whole b now plan ≡ transaction_due_plan b now (transaction_at b id)
asks b now ts m id t d plan holds found chose planned =
    planned ∙ ap (transaction_plan b now [] t) (chose ∙ ap (λ k. transaction_reached k t (transaction_due k t)) holds.1)
    ∙ sym (ap (transaction_due_plan b now) (here b now ts m id (Some t) holds found))

pub asks_none : (b : Book) (now : ℕ) (ts : List Transaction) (m : Moment) (id : Numbers) → Holds b now ts m → find_by transaction_id id ts ≡ None → plain (still b []) ≡ transaction_due_plan b now (transaction_at b id)
asks_none b now ts m id holds found = sym (ap (transaction_due_plan b now) (here b now ts m id None holds found))
