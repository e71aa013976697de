-- A step passes on what is asked of endpoints and texts, from its book and its event.
use Rattle.std.specs.Prelude.{ℕ, List, [], Option, Some, None, Bool, true, false, IfSome, codes, length, map, ◌≡◌}
use Rattle.std.proofs.Common.{inl, refl, subst, sym}
use Rattle.at_base.specs.IdText.{IsId}
use Rattle.at_base.specs.Names.{is_kind}
use Rattle.at_base.specs.Numbers.{Numbers}
use Rattle.at_base.specs.declared.epr.Epr.{Epr}
use Rattle.at_base.specs.declared.event.Arrived.{Arrived}
use Rattle.at_base.specs.declared.event.Event.{Event}
use Rattle.at_base.specs.declared.event.Event.TheVariants as events
use Rattle.at_base.specs.declared.event.Item.{Item}
use Rattle.at_base.specs.declared.event.Item.TheVariants as items
use Rattle.at_base.specs.declared.event.Local.{Local}
use Rattle.at_base.specs.declared.event.Local.TheVariants as locals
use Rattle.at_base.specs.declared.message.Message.{Message}
use Rattle.at_base.specs.declared.message.Message.TheVariants as messages
use Rattle.at_base.specs.declared.notice.Kind.{Kind}
use Rattle.at_base.specs.declared.notice.Notice.TheVariants as notices
use Rattle.at_base.specs.declared.outs.Out.{Out}
use Rattle.at_base.specs.declared.outs.Out.TheVariants as outs
use Rattle.at_base.specs.declared.target.Target.{Target}
use Rattle.at_base.specs.declared.target.Target.TheVariants as targets
use Rattle.at_tables.specs.Tables.{completion_of, coordinator_of, initiator_of, participant_of}
use Rattle.at_tables.specs.declared.cells.State.TheVariants as states
use Rattle.endpoints.specs.Addresses.{IsWritten, endpoint_of}
use Rattle.at_model.specs.Activities.{Beginning, Refusal, on_activity, on_ask, on_begin, on_complete, on_interpose, service}
use Rattle.at_model.specs.Arrivals.{on_completion, on_link, on_seat, with_answer}
use Rattle.at_model.specs.Book.{Activity, Book, Completion, Enlistment, Leaf, Superior, Transaction, activity_id, leaf_id, next_id, transaction_id}
use Rattle.at_model.specs.Create.{on_create}
use Rattle.at_model.specs.Due.{activity_due, activity_reached, leaf_due, leaf_reached, transaction_due, transaction_reached}
use Rattle.at_model.specs.Leaves.{Employment, on_leaf, on_work}
use Rattle.at_model.specs.Moves.{Change, Decision, Goes}
use Rattle.at_model.specs.Posts.{accepted}
use Rattle.at_model.specs.Register.{Registration, on_register, protocol_named, register_unknown}
use Rattle.at_model.specs.Step.{activation_plan, activity_at, activity_due_plan, activity_plan, arrived_plan, asking_plan, at_time, begin_plan, begun_plan, completion_plan, completion_seat_plan, coordinator_plan, created_plan, due_plan, employed_plan, find_seat, has_committed, initiator_plan, interpose_plan, leaf_at, leaf_due_plan, leaf_or_stranger_plan, leaf_plan, link_plan, local_plan, make_activity, make_leaf, make_transaction, moment_of, nothing, participant_plan, plan, put_activity, put_leaf, put_transaction, refuses, registration_outcome, registration_plan, request_plan, seat_plan, seatless_plan, stranger_plan, transaction_at, transaction_due_plan, transaction_plan, work_plan}
use Rattle.model_laws.proofs.DecisionLaws.{either_of}
use Rattle.provenance.specs.Endpoints.{EndpointsAreKnown, IsKnown, from_known}
use Rattle.provenance.specs.Forms.{AreOuts, Forms, HaveOwn, IsActivity, IsArrived, IsBook, IsEvent, IsLeaf, IsLocal, IsHeard, IsSeat, IsTransaction}
use Rattle.provenance.specs.Provenance.{StepsPassOn}
use Rattle.provenance.proofs.ActivityMessages.{IsBeginning, activity_due_passes, activity_passes, ask_passes, begin_passes, complete_passes, interpose_passes}
use Rattle.provenance.proofs.Books.{found, found_by, make_activity_passes, make_leaf_passes, make_transaction_passes, next_is_id, put_activity_passes, put_leaf_passes, put_transaction_passes}
use Rattle.provenance.proofs.Decisions.{DecidesActivity, DecidesLeaf, DecidesTransaction, Leaves}
use Rattle.provenance.proofs.LeafMessages.{IsEmployment, leaf_due_passes, leaf_passes, work_passes}
use Rattle.provenance.proofs.Plans.{IsPlan, accepted_has, answered_passes, decided_passes, in_branch, plain_passes, posts_out, still_passes, timed}
use Rattle.provenance.proofs.Recoveries.{recovery_passes_on}
use Rattle.provenance.proofs.Registrations.{create_passes, register_passes, unknown_passes}
use Rattle.provenance.proofs.Strangers.{outcome_passes, stranger_passes}
use Rattle.provenance.proofs.TransactionMessages.{completion_passes, due_passes, link_passes, seat_passes}

-- an item that moves
transaction_moves : (F : Forms) (b : Book) (now : ℕ) (answer : List Out) (t : Transaction) (d : Decision Transaction) → IsBook F b → AreOuts F answer
    → DecidesTransaction F (with_answer (moment_of b now) t d) → IsPlan F (transaction_plan b now answer t d)
transaction_moves F b now answer t d h k i =
    decided_passes F (IsTransaction F) b (put_transaction t.id (at_time now b)) answer (with_answer (moment_of b now) t d) h (λ x j. put_transaction_passes F b now t.id x h j) k i

leaf_moves : (F : Forms) (b : Book) (now : ℕ) (answer : List Out) (l : Leaf) (d : Decision Leaf) → IsBook F b → AreOuts F answer → DecidesLeaf F d → IsPlan F (leaf_plan b now answer l d)
leaf_moves F b now answer l d h k i = decided_passes F (IsLeaf F) b (put_leaf l.id (at_time now b)) answer d h (λ x j. put_leaf_passes F b now l.id x h j) k i

activity_moves : (F : Forms) (b : Book) (now : ℕ) (answer : List Out) (a : Activity) (d : Decision Activity) → IsBook F b → AreOuts F answer → DecidesActivity F d
    → IsPlan F (activity_plan b now answer a d)
activity_moves F b now answer a d h k i = decided_passes F (IsActivity F) b (put_activity a.id (at_time now b)) answer d h (λ x j. put_activity_passes F b now a.id x h j) k i

nothing_passes : (F : Forms) (b : Book) (now : ℕ) → IsBook F b → IsPlan F (nothing b now)
nothing_passes F b now h = answered_passes F b now [] h tt

-- a message, by its target
created_passes : (F : Forms) (b : Book) (now : ℕ) (t : Option Transaction) (os : List Out) → IsBook F b → IfSome t (IsTransaction F) → AreOuts F os → IsPlan F (created_plan b now t os)
created_passes F b now None os h i k = still_passes F (at_time now b) os (timed F b now h) k
created_passes F b now (Some t) os h i k = still_passes F (make_transaction (at_time now b) t) os (make_transaction_passes F b now t h i) k

activation_passes : (F : Forms) (b : Book) (now : ℕ) (a : Arrived) (x : Message) → HaveOwn F b.base → IsBook F b → IsArrived F a → a.message ≡ x → IsPlan F (activation_plan b now a x)
unfolding activation_plan
activation_passes F b now a (messages.Create c) o h w e =
    let (made, sent) = create_passes F (moment_of b now) (length b.transactions) a c (next_id b) o w e (next_is_id F b h) in
    created_passes F b now (on_create (moment_of b now) (length b.transactions) a c (next_id b)).transaction (on_create (moment_of b now) (length b.transactions) a c (next_id b)).outs h made sent
activation_passes F b now a other o h w e = nothing_passes F b now h

registration_passes : (F : Forms) (b : Book) (now : ℕ) (a : Arrived) (x : Message) (t : Option Transaction) → HaveOwn F b.base → IsBook F b → IsArrived F a → a.message ≡ x
    → IfSome t (IsTransaction F) → IsPlan F (registration_plan b now a x t)
unfolding registration_plan
registration_passes F b now a (messages.Register r) None o h w e i =
    still_passes F (at_time now b) (register_unknown a r (protocol_named r.protocol)) (timed F b now h) (unknown_passes F a r (protocol_named r.protocol) w)
registration_passes F b now a (messages.Register r) (Some t) o h w e i =
    let (left, sent) = register_passes F (moment_of b now) a r t o w e i in
    let made : Registration = on_register (moment_of b now) a r t in
    plain_passes F (registration_outcome b now made) (record { book = put_transaction_passes F b now made.transaction.id (Some made.transaction) h left; outs = sent })
registration_passes F b now a other t o h w e i = nothing_passes F b now h

seatless_passes : (F : Forms) (b : Book) (now : ℕ) (a : Arrived) (committed : Bool) → HaveOwn F b.base → IsBook F b → IsArrived F a → IsPlan F (seatless_plan b now a committed)
seatless_passes F b now a true o h w = outcome_passes F b now a a.message o h w
seatless_passes F b now a false o h w = stranger_passes F b now a (completion_of states.None) a.message o h w

completion_seat_passes : (F : Forms) (b : Book) (now : ℕ) (a : Arrived) (committed : Bool) (t : Transaction) (c : Option Completion) → HaveOwn F b.base → IsBook F b → IsArrived F a
    → IsTransaction F t → t.completion ≡ c → IsPlan F (completion_seat_plan b now a committed t c)
completion_seat_passes F b now a committed t None o h w i e = seatless_passes F b now a committed o h w
completion_seat_passes F b now a committed t (Some c) o h w i e =
    transaction_moves F b now accepted t (on_completion (moment_of b now) a t c a.message) h (accepted_has F) (completion_passes F (moment_of b now) a t c o w i e)

completion_plan_passes : (F : Forms) (b : Book) (now : ℕ) (a : Arrived) (committed : Bool) (t : Option Transaction) → HaveOwn F b.base → IsBook F b → IsArrived F a
    → IfSome t (IsTransaction F) → IsPlan F (completion_plan b now a committed t)
unfolding completion_plan
completion_plan_passes F b now a committed None o h w i = seatless_passes F b now a committed o h w
completion_plan_passes F b now a committed (Some t) o h w i = completion_seat_passes F b now a committed t t.completion o h w i refl

seat_plan_passes : (F : Forms) (b : Book) (now : ℕ) (a : Arrived) (kind : Kind) (t : Transaction) (s : Option Enlistment) → HaveOwn F b.base → IsBook F b → IsArrived F a
    → IsTransaction F t → IfSome s (IsSeat F t.id) → IsPlan F (seat_plan b now a kind t s)
seat_plan_passes F b now a kind t None o h w i k = stranger_passes F b now a (coordinator_of kind states.None) a.message o h w
seat_plan_passes F b now a kind t (Some s) o h w i k =
    transaction_moves F b now accepted t (on_seat (moment_of b now) a t s a.message) h (accepted_has F) (seat_passes F (moment_of b now) a t s o w i k)

coordinator_passes : (F : Forms) (b : Book) (now : ℕ) (a : Arrived) (number : ℕ) (kind : Kind) (t : Option Transaction) → HaveOwn F b.base → IsBook F b → IsArrived F a
    → IfSome t (IsTransaction F) → IsPlan F (coordinator_plan b now a number kind t)
unfolding coordinator_plan
coordinator_passes F b now a number kind None o h w i = stranger_passes F b now a (coordinator_of kind states.None) a.message o h w
coordinator_passes F b now a number kind (Some t) o h w i =
    seat_plan_passes F b now a kind t (find_seat number kind t.seats) o h w i (found (IsSeat F t.id) _ t.seats i.seats)

leaf_or_stranger_passes : (F : Forms) (b : Book) (now : ℕ) (a : Arrived) (kind : Kind) (l : Option Leaf) → HaveOwn F b.base → IsBook F b → IsArrived F a → IfSome l (IsLeaf F)
    → IsPlan F (leaf_or_stranger_plan b now a kind l)
leaf_or_stranger_passes F b now a kind None o h w i = stranger_passes F b now a (participant_of kind states.None) a.message o h w
leaf_or_stranger_passes F b now a kind (Some l) o h w i =
    either_of (IsPlan F) (is_kind l.kind kind) (leaf_plan b now accepted l (on_leaf (moment_of b now) a l a.message)) (stranger_plan b now a (participant_of kind states.None) a.message)
    (λ e. leaf_moves F b now accepted l (on_leaf (moment_of b now) a l a.message) h (accepted_has F) (leaf_passes F (moment_of b now) a l o w i))
    (λ e. stranger_passes F b now a (participant_of kind states.None) a.message o h w)

link_plan_passes : (F : Forms) (b : Book) (now : ℕ) (a : Arrived) (kind : Kind) (t : Transaction) (s : Option Superior) → HaveOwn F b.base → IsBook F b → IsArrived F a
    → IsTransaction F t → t.superior ≡ s → IsPlan F (link_plan b now a kind t s)
link_plan_passes F b now a kind t None o h w i e = stranger_passes F b now a (participant_of kind states.None) a.message o h w
link_plan_passes F b now a kind t (Some s) o h w i e =
    transaction_moves F b now accepted t (on_link (moment_of b now) a kind t s a.message) h (accepted_has F) (link_passes F (moment_of b now) a kind t s o w i e)

participant_passes : (F : Forms) (b : Book) (now : ℕ) (a : Arrived) (kind : Kind) (t : Option Transaction) (l : Option Leaf) → HaveOwn F b.base → IsBook F b → IsArrived F a
    → IfSome t (IsTransaction F) → IfSome l (IsLeaf F) → IsPlan F (participant_plan b now a kind t l)
unfolding participant_plan
participant_passes F b now a kind (Some t) l o h w i k = link_plan_passes F b now a kind t t.superior o h w i refl
participant_passes F b now a kind None l o h w i k = leaf_or_stranger_passes F b now a kind l o h w k

initiator_passes : (F : Forms) (b : Book) (now : ℕ) (a : Arrived) (x : Option Activity) → HaveOwn F b.base → IsBook F b → IsArrived F a → IfSome x (IsActivity F)
    → IsPlan F (initiator_plan b now a x)
unfolding initiator_plan
initiator_passes F b now a None o h w i = stranger_passes F b now a (initiator_of states.None) a.message o h w
initiator_passes F b now a (Some x) o h w i =
    activity_moves F b now accepted x (on_activity (moment_of b now) a x a.message) h (accepted_has F) (activity_passes F (moment_of b now) a x o w i)

employed_passes : (F : Forms) (b : Book) (now : ℕ) (l : Option Leaf) (os : List Out) → IsBook F b → IfSome l (IsLeaf F) → AreOuts F os → IsPlan F (employed_plan b now l os)
employed_passes F b now None os h i k = still_passes F (at_time now b) os (timed F b now h) k
employed_passes F b now (Some l) os h i k = still_passes F (make_leaf (at_time now b) l) os (make_leaf_passes F b now l h i) k

work_plan_passes : (F : Forms) (b : Book) (now : ℕ) (a : Arrived) (x : Message) → HaveOwn F b.base → IsBook F b → IsArrived F a → IsHeard F x → IsPlan F (work_plan b now a x)
unfolding work_plan
work_plan_passes F b now a (messages.Work x) o h w i =
    let made : Employment = on_work (moment_of b now) (length b.leaves) a x (next_id b) in
    let has : IsEmployment F made = work_passes F (moment_of b now) (length b.leaves) a x (next_id b) o w i (next_is_id F b h) in
    employed_passes F b now made.leaf made.outs h has.leaf has.outs
work_plan_passes F b now a other o h w i = nothing_passes F b now h

standing : (F : Forms) (b : Book) (id : Numbers) → IsBook F b → IfSome (transaction_at b id) (IsTransaction F)
standing F b id h = found_by (IsTransaction F) transaction_id id b.transactions h.transactions

standing_leaf : (F : Forms) (b : Book) (id : Numbers) → IsBook F b → IfSome (leaf_at b id) (IsLeaf F)
standing_leaf F b id h = found_by (IsLeaf F) leaf_id id b.leaves h.leaves

standing_activity : (F : Forms) (b : Book) (id : Numbers) → IsBook F b → IfSome (activity_at b id) (IsActivity F)
standing_activity F b id h = found_by (IsActivity F) activity_id id b.activities h.activities

arrived_passes : (F : Forms) (b : Book) (now : ℕ) (a : Arrived) (target : Target) → HaveOwn F b.base → IsBook F b → IsArrived F a → IsPlan F (arrived_plan b now a target)
unfolding arrived_plan
arrived_passes F b now a targets.Activation o h w = activation_passes F b now a a.message o h w refl
arrived_passes F b now a (targets.Registration id) o h w = registration_passes F b now a a.message (transaction_at b id) o h w refl (standing F b id h)
arrived_passes F b now a (targets.Completion id) o h w = completion_plan_passes F b now a (has_committed b id) (transaction_at b id) o h w (standing F b id h)
arrived_passes F b now a (targets.Coordinator id seat) o h w = coordinator_passes F b now a seat.number seat.kind (transaction_at b id) o h w (standing F b id h)
arrived_passes F b now a (targets.Participant id kind) o h w = participant_passes F b now a kind (transaction_at b id) (leaf_at b id) o h w (standing F b id h) (standing_leaf F b id h)
arrived_passes F b now a (targets.Initiator id) o h w = initiator_passes F b now a (activity_at b id) o h w (standing_activity F b id h)
arrived_passes F b now a targets.Work o h w = work_plan_passes F b now a a.message o h w w.message

-- a request
begun_passes : (F : Forms) (b : Book) (now : ℕ) (x : Beginning) → IsBook F b → IsBeginning F x → IsPlan F (begun_plan b now x)
begun_passes F b now x h k =
    still_passes F (make_activity (at_time now b) x.activity) (map outs.Post x.posts) (make_activity_passes F b now x.activity h k.activity) (posts_out F x.posts k.posts)

begin_plan_passes : (F : Forms) (b : Book) (now : ℕ) (coordinator : List ℕ) (ms : ℕ) (next : Option Numbers) → HaveOwn F b.base → IsBook F b → IsLocal F (locals.Begin coordinator ms)
    → IfSome next IsId → IsPlan F (begin_plan b now coordinator ms next)
begin_plan_passes F b now coordinator ms None o h w i = still_passes F b [] h tt
begin_plan_passes F b now coordinator ms (Some id) o h (to, span) i =
    begun_passes F b now (on_begin (moment_of b now) id coordinator ms) h (begin_passes F (moment_of b now) id coordinator ms o i to span)

interpose_plan_passes : (F : Forms) (b : Book) (now : ℕ) (coordinator : List ℕ) (next : Option Numbers) (a : Option Activity) → HaveOwn F b.base → IsBook F b
    → F.endpoint (service coordinator (codes "/activation")) → IfSome next IsId → IfSome a (IsActivity F) → IsPlan F (interpose_plan b now coordinator next a)
interpose_plan_passes F b now coordinator None a o h w i k = still_passes F b [] h tt
interpose_plan_passes F b now coordinator (Some id) None o h w i k = still_passes F b [] h tt
interpose_plan_passes F b now coordinator (Some id) (Some a) o h w i k =
    begun_passes F b now (on_interpose (moment_of b now) id coordinator a.root a.context) h (interpose_passes F (moment_of b now) id coordinator a.root a.context o i w k.context)

asking_passes : (F : Forms) (b : Book) (now : ℕ) (change : Activity → Change Activity) (a : Option Activity) → IsBook F b → IfSome a (IsActivity F)
    → ((x : Activity) → IsActivity F x → Leaves F (IsActivity F) (change x)) → IsPlan F (asking_plan b now change a)
asking_passes F b now change None h i f = still_passes F b [] h tt
asking_passes F b now change (Some a) h i f = activity_moves F b now [] a (Goes (change a)) h tt (f a i)

request_passes : (F : Forms) (b : Book) (now : ℕ) (l : Local) → HaveOwn F b.base → IsBook F b → IsLocal F l → IsPlan F (request_plan b now l)
unfolding request_plan
request_passes F b now (locals.Begin coordinator ms) o h w = begin_plan_passes F b now coordinator ms (next_id b) o h w (next_is_id F b h)
request_passes F b now (locals.Interpose activity coordinator) o h w =
    interpose_plan_passes F b now coordinator (next_id b) (activity_at b activity) o h w (next_is_id F b h) (standing_activity F b activity h)
request_passes F b now (locals.Work activity url kind vote key value) o h (to, k, v) =
    asking_passes F b now (λ a. on_ask (moment_of b now) url kind vote key value a a.context) (activity_at b activity) h (standing_activity F b activity h)
    (λ a i. ask_passes F (moment_of b now) url kind vote key value a a.context o to k v i.context i)
request_passes F b now (locals.Commit activity) o h w =
    asking_passes F b now (on_complete (moment_of b now) notices.Commit) (activity_at b activity) h (standing_activity F b activity h) (λ a i. complete_passes F (moment_of b now) notices.Commit a o i)
request_passes F b now (locals.Rollback activity) o h w =
    asking_passes F b now (on_complete (moment_of b now) notices.Rollback) (activity_at b activity) h (standing_activity F b activity h)
    (λ a i. complete_passes F (moment_of b now) notices.Rollback a o i)

local_passes : (F : Forms) (b : Book) (now : ℕ) (l : Local) (refusal : Option Refusal) → HaveOwn F b.base → IsBook F b → IsLocal F l → IsPlan F (local_plan b now l refusal)
local_passes F b now l None o h w = request_passes F b now l o h w
local_passes F b now l (Some refusal) o h w = still_passes F b [] h tt

-- an item that is due
transaction_due_passes : (F : Forms) (b : Book) (now : ℕ) (t : Option Transaction) → HaveOwn F b.base → IsBook F b → IfSome t (IsTransaction F) → IsPlan F (transaction_due_plan b now t)
transaction_due_passes F b now None o h i = still_passes F b [] h tt
transaction_due_passes F b now (Some t) o h i =
    transaction_moves F b now [] t (transaction_reached (moment_of b now) t (transaction_due (moment_of b now) t)) h tt
    (due_passes F (moment_of b now) t (transaction_due (moment_of b now) t) o i)

leaf_due_plan_passes : (F : Forms) (b : Book) (now : ℕ) (l : Option Leaf) → HaveOwn F b.base → IsBook F b → IfSome l (IsLeaf F) → IsPlan F (leaf_due_plan b now l)
leaf_due_plan_passes F b now None o h i = still_passes F b [] h tt
leaf_due_plan_passes F b now (Some l) o h i =
    leaf_moves F b now [] l (leaf_reached (moment_of b now) l (leaf_due (moment_of b now) l)) h tt (leaf_due_passes F (moment_of b now) l (leaf_due (moment_of b now) l) o i)

activity_due_plan_passes : (F : Forms) (b : Book) (now : ℕ) (a : Option Activity) → HaveOwn F b.base → IsBook F b → IfSome a (IsActivity F) → IsPlan F (activity_due_plan b now a)
activity_due_plan_passes F b now None o h i = still_passes F b [] h tt
activity_due_plan_passes F b now (Some a) o h i =
    activity_moves F b now [] a (activity_reached (moment_of b now) a (activity_due (moment_of b now) a)) h tt
    (activity_due_passes F (moment_of b now) a (activity_due (moment_of b now) a) o i)

due_plan_passes : (F : Forms) (b : Book) (now : ℕ) (item : Item) → HaveOwn F b.base → IsBook F b → IsPlan F (due_plan b now item)
unfolding due_plan
due_plan_passes F b now (items.Transaction id) o h = transaction_due_passes F b now (transaction_at b id) o h (standing F b id h)
due_plan_passes F b now (items.Leaf id) o h = leaf_due_plan_passes F b now (leaf_at b id) o h (standing_leaf F b id h)
due_plan_passes F b now (items.Activity id) o h = activity_due_plan_passes F b now (activity_at b id) o h (standing_activity F b id h)

-- a step
plan_passes : (F : Forms) (b : Book) (e : Event) (now : ℕ) → HaveOwn F b.base → IsBook F b → IsEvent F e → IsPlan F (plan b e now)
plan_passes F b (events.Arrived a) now o h w = arrived_passes F b now a a.target o h w
plan_passes F b (events.Local l) now o h w = local_passes F b now l (refuses b l) o h w
plan_passes F b (events.Due item) now o h w = due_plan_passes F b now item o h
plan_passes F b events.Tick now o h w = nothing_passes F b now h

pub steps_pass_on : (F : Forms) → StepsPassOn F
steps_pass_on F = record {
  book = λ b e now landed o h w. (in_branch F (plan b e now) landed (plan_passes F b e now o h w)).book;
  posts = λ b e now landed o h w. (in_branch F (plan b e now) landed (plan_passes F b e now o h w)).outs;
  entry = λ b e now o h w. (plan_passes F b e now o h w).entry;
}

-- the endpoints alone
own_is_known : (base : List ℕ) (known : List Epr) (own : Target) → IsWritten own → IsKnown base known (endpoint_of base own)
own_is_known base known own w = inl (record { target = own; written = w; same = refl })

own_have : (base : List ℕ) (known : List Epr) → HaveOwn (from_known base known) base
own_have base known = record {
  endpoints = own_is_known base known;
  contexts = λ identifier expires id n s i. own_is_known base known (targets.Registration id) i;
  parts = λ c h. (tt, tt, h);
  identifiers = λ id i. tt;
  no_span = tt;
  creates = λ own. tt;
  registers = λ own. tt;
  works = λ own n. tt;
  atomic_type = tt;
  protocols = λ kind. tt;
  completion = tt;
}

own_at : (base : List ℕ) (known : List Epr) (b : Book) → b.base ≡ base → HaveOwn (from_known base known) b.base
own_at base known b e = subst (HaveOwn (from_known base known)) (sym e) (own_have base known)

pub endpoints_are_known : EndpointsAreKnown
endpoints_are_known = record {
  book = λ base known b e now landed same h w. (steps_pass_on (from_known base known)).book b e now landed (own_at base known b same) h w;
  posts = λ base known b e now landed same h w. (steps_pass_on (from_known base known)).posts b e now landed (own_at base known b same) h w;
  entry = λ base known b e now same h w. (steps_pass_on (from_known base known)).entry b e now (own_at base known b same) h w;
  recovered = λ base known. recovery_passes_on (from_known base known) base;
}
