-- A step: what an event does to a book, what it records, sends and brings about.
use Rattle.std.specs.Prelude.{ℕ, List, [], ◌∷◌, ◌++◌, Option, Some, None, Bool, true, false, not, nat_eq, nat_lt, ◌&&◌, ◌||◌, ◌+◌, if◌then◌else◌, length, map, filter, find, max, is_none}
use Rattle.at_base.specs.declared.limits.TheConstants.{MOST_ACTIVITIES}
use Rattle.at_base.specs.declared.fault.Fault.TheVariants.{InvalidState, UnknownTransaction}
use Rattle.at_base.specs.Numbers.{Numbers}
use Rattle.at_base.specs.declared.epr.Epr.{Epr}
use Rattle.at_base.specs.declared.notice.Kind.{Kind}
use Rattle.at_base.specs.declared.notice.Notice.{Notice}
use Rattle.at_base.specs.declared.notice.Notice.TheVariants as notices
use Rattle.at_base.specs.declared.message.Message.{Message}
use Rattle.at_base.specs.declared.message.Message.TheVariants as messages
use Rattle.at_base.specs.declared.target.Target.{Target}
use Rattle.at_base.specs.declared.target.Target.TheVariants as targets
use Rattle.at_base.specs.declared.record.Record.{Record}
use Rattle.at_base.specs.declared.event.Arrived.{Arrived}
use Rattle.at_base.specs.declared.event.Moment.{Moment}
use Rattle.at_base.specs.declared.event.Local.{Local}
use Rattle.at_base.specs.declared.event.Local.TheVariants as locals
use Rattle.at_base.specs.declared.event.Item.{Item}
use Rattle.at_base.specs.declared.event.Item.TheVariants as items
use Rattle.at_base.specs.declared.event.Event.{Event}
use Rattle.at_base.specs.declared.event.Event.TheVariants as events
use Rattle.at_base.specs.declared.outs.Post.{Post}
use Rattle.at_base.specs.declared.outs.Out.{Out}
use Rattle.at_base.specs.declared.outs.Out.TheVariants as outs
use Rattle.at_base.specs.declared.outs.Effect.{Effect}
use Rattle.at_tables.specs.declared.cells.State.TheVariants as states
use Rattle.at_tables.specs.declared.cells.Act.{Act}
use Rattle.at_tables.specs.declared.cells.Act.TheVariants as acts
use Rattle.at_tables.specs.declared.cells.Cell.{Cell}
use Rattle.at_base.specs.Names.{is_kind}
use Rattle.at_tables.specs.Tables.{coordinator_of, participant_of, completion_of, initiator_of}
use Rattle.at_model.specs.Book.{Book, Transaction, Leaf, Activity, Enlistment, Completion, Superior, Phase, is_id, find_by, put_by, transaction_id, leaf_id, activity_id, next_id, last_counter}
use Rattle.at_model.specs.Outcomes.{is_kept, noted}
use Rattle.at_model.specs.Posts.{notice_post, stranger_post, fault_post, to_each, accepted}
use Rattle.at_model.specs.Moves.{Change, Decision, Goes, Records}
use Rattle.at_model.specs.Arrivals.{on_link, on_seat, on_completion, with_answer}
use Rattle.at_model.specs.Register.{protocol_named, Registration, on_register, register_unknown}
use Rattle.at_model.specs.Create.{Creation, on_create}
use Rattle.at_model.specs.Leaves.{on_leaf, Employment, on_work}
use Rattle.at_model.specs.Activities.{is_begun, on_activity, Refusal, is_active, Beginning, on_begin, on_interpose, on_ask, on_complete, Stale, Full, Spent}
use Rattle.at_model.specs.Due.{Reached, transaction_due, transaction_reached, leaf_due, leaf_reached, activity_due, activity_reached, Expired, Over, Unanswered, Nothing}

-- What a step gives: the book after it, what is sent (at most one answer, then posts), and what happened.
pub record Outcome : Type 0 where
  pub book : Book
  pub outs : List Out
  pub effects : List Effect

-- A step before its record is appended: the record, or none; and the outcome where it stands in the journal, and where
-- it is certainly absent. Without a record both are the same.
pub record Plan : Type 0 where
  pub entry : Option Record
  pub landed : Outcome
  pub absent : Outcome

abbrev pub plain : Outcome → Plan
plain o = record { entry = None; landed = o; absent = o }

-- nothing but this is sent
abbrev pub still : Book → List Out → Outcome
still b os = record { book = b; outs = os; effects = [] }

-- Time is the greater of the clock and the last time seen.
abbrev pub time_of : Book → ℕ → ℕ
time_of b now = max now b.seen

abbrev pub at_time : ℕ → Book → Book
at_time now b = record b { seen = time_of b now }

abbrev pub moment_of : Book → ℕ → Moment
moment_of b now = record { now = time_of b now; next = next_id b; base = b.base }

-- The items of a book, by id.
abbrev pub transaction_at : Book → Numbers → Option Transaction
transaction_at b id = find_by transaction_id id b.transactions

abbrev pub leaf_at : Book → Numbers → Option Leaf
leaf_at b id = find_by leaf_id id b.leaves

abbrev pub activity_at : Book → Numbers → Option Activity
activity_at b id = find_by activity_id id b.activities

-- The book with what became of one item.
abbrev pub put_transaction : Numbers → Book → Option Transaction → Book
put_transaction id b t = record b { transactions = put_by transaction_id id t b.transactions }

abbrev pub put_leaf : Numbers → Book → Option Leaf → Book
put_leaf id b l = record b { leaves = put_by leaf_id id l b.leaves }

abbrev pub is_under : Numbers → Activity → Bool
is_under id a = is_id a.root id

-- With an activity that is dropped go all that are under it.
abbrev pub put_activities : Numbers → Option Activity → List Activity → List Activity
put_activities id None list = filter (λ a. not (is_under id a)) (put_by activity_id id None list)
put_activities id (Some a) list = put_by activity_id id (Some a) list

abbrev pub put_activity : Numbers → Book → Option Activity → Book
put_activity id b a = record b { activities = put_activities id a b.activities }

-- The book with a new item, whose id is the next one.
abbrev pub make_transaction : Book → Transaction → Book
make_transaction b t = record b { counter = b.counter + 1; transactions = b.transactions ++ t ∷ [] }

abbrev pub make_leaf : Book → Leaf → Book
make_leaf b l = record b { counter = b.counter + 1; leaves = b.leaves ++ l ∷ [] }

abbrev pub make_activity : Book → Activity → Book
make_activity b a = record b { counter = b.counter + 1; activities = b.activities ++ a ∷ [] }

abbrev pub outcome_of : {A : Type 0} → (Option A → Book) → List Out → Change A → Outcome
outcome_of put answer c = record { book = put c.item; outs = answer ++ map outs.Post c.posts; effects = c.effects }

abbrev pub absent_outcome : {A : Type 0} → Book → (Option A → Book) → List Out → Option (Change A) → Outcome
absent_outcome b put answer None = still b answer
absent_outcome b put answer (Some c) = outcome_of put answer c

-- Where a record stands, its outcome is kept.
abbrev pub noting : Record → Outcome → Outcome
noting r o = record o { book = noted r o.book }

-- The plan of a decision on one item. Where a step is undone, the book is as it was.
abbrev pub plan_of : {A : Type 0} → Book → (Option A → Book) → List Out → Decision A → Plan
plan_of b put answer (Goes c) = plain (outcome_of put answer c)
plan_of b put answer (Records r c absent) =
    record { entry = Some r; landed = noting r (outcome_of put answer c); absent = absent_outcome b put answer absent }

abbrev pub transaction_plan : Book → ℕ → List Out → Transaction → Decision Transaction → Plan
transaction_plan b now answer t d =
    plan_of b (put_transaction t.id (at_time now b)) answer (with_answer (moment_of b now) t d)

abbrev pub leaf_plan : Book → ℕ → List Out → Leaf → Decision Leaf → Plan
leaf_plan b now answer l d = plan_of b (put_leaf l.id (at_time now b)) answer d

abbrev pub activity_plan : Book → ℕ → List Out → Activity → Decision Activity → Plan
activity_plan b now answer a d = plan_of b (put_activity a.id (at_time now b)) answer d

-- A message at what isn't known: its state is None, and the answer goes to the message's From
-- (WS-AtomicTransaction 1.2, section 3.3.4).
abbrev pub stranger_act : List ℕ → Target → Option Epr → Option (List ℕ) → Act → List Post
stranger_act base own from id acts.SendRollback = to_each from (λ to. stranger_post base own to notices.Rollback)
stranger_act base own from id acts.SendCommitted = to_each from (λ to. stranger_post base own to notices.Committed)
stranger_act base own from id acts.SendAborted = to_each from (λ to. stranger_post base own to notices.Aborted)
stranger_act base own from id acts.FaultUnknownTransaction = to_each from (λ to. fault_post (Some to) id UnknownTransaction)
stranger_act base own from id other = []

abbrev pub stranger_cell : List ℕ → Target → Option Epr → Option (List ℕ) → Option Cell → List Post
stranger_cell base own from id None = []
stranger_cell base own from id (Some c) = stranger_act base own from id c.act

-- accepted, and these posts; the book only notes the time
abbrev pub answered_with : Book → ℕ → List Post → Plan
answered_with b now ps = plain (still (at_time now b) (accepted ++ map outs.Post ps))

abbrev pub nothing : Book → ℕ → Plan
nothing b now = answered_with b now []

abbrev pub stranger_plan : Book → ℕ → Arrived → (Notice → Option Cell) → Message → Plan
stranger_plan b now a table (messages.Notice n) =
    answered_with b now (stranger_cell b.base a.target a.from a.id (table n))
stranger_plan b now a table other = nothing b now

-- Activation.
abbrev pub created_plan : Book → ℕ → Option Transaction → List Out → Plan
created_plan b now None os = plain (still (at_time now b) os)
created_plan b now (Some t) os = plain (still (make_transaction (at_time now b) t) os)

unfoldable pub activation_plan : Book → ℕ → Arrived → Message → Plan
activation_plan b now a (messages.Create c) =
    let made : Creation = on_create (moment_of b now) (length b.transactions) a c (next_id b) in
    created_plan b now made.transaction made.outs
activation_plan b now a other = nothing b now

-- Registration.
abbrev pub registration_outcome : Book → ℕ → Registration → Outcome
registration_outcome b now r = still (put_transaction r.transaction.id (at_time now b) (Some r.transaction)) r.outs

unfoldable pub registration_plan : Book → ℕ → Arrived → Message → Option Transaction → Plan
registration_plan b now a (messages.Register r) None =
    plain (still (at_time now b) (register_unknown a r (protocol_named r.protocol)))
registration_plan b now a (messages.Register r) (Some t) = plain (registration_outcome b now (on_register (moment_of b now) a r t))
registration_plan b now a other t = nothing b now

-- The completion seat. Where a root committed and has none any more, its state is Done, and the answer goes to the
-- message's From.
abbrev pub outcome_act : List ℕ → Target → Option Epr → Option (List ℕ) → Act → List Post
outcome_act base own from id acts.SendCommitted = to_each from (λ to. notice_post base own to notices.Committed)
outcome_act base own from id acts.FaultInvalidState = to_each from (λ to. fault_post (Some to) id InvalidState)
outcome_act base own from id other = []

abbrev pub outcome_cell : List ℕ → Target → Option Epr → Option (List ℕ) → Option Cell → List Post
outcome_cell base own from id None = []
outcome_cell base own from id (Some c) = outcome_act base own from id c.act

abbrev pub outcome_plan : Book → ℕ → Arrived → Message → Plan
outcome_plan b now a (messages.Notice n) =
    answered_with b now (outcome_cell b.base a.target a.from a.id (completion_of states.Done n))
outcome_plan b now a other = nothing b now

abbrev pub is_committing : Phase → Bool
is_committing Phase.Registering = false
is_committing Phase.Active = false
is_committing Phase.Volatile = false
is_committing Phase.Durable = false
is_committing Phase.Voted = false
is_committing Phase.Committing = true
is_committing Phase.Aborting = false

abbrev pub is_decided_root : Option Transaction → Bool
is_decided_root None = false
is_decided_root (Some t) = is_none t.superior && is_committing t.phase

-- The root of this id committed: it still waits for its seats, or its outcome is kept.
abbrev pub has_committed : Book → Numbers → Bool
has_committed b id = is_decided_root (transaction_at b id) || is_kept id b.outcomes

abbrev pub seatless_plan : Book → ℕ → Arrived → Bool → Plan
seatless_plan b now a true = outcome_plan b now a a.message
seatless_plan b now a false = stranger_plan b now a (completion_of states.None) a.message

abbrev pub completion_seat_plan : Book → ℕ → Arrived → Bool → Transaction → Option Completion → Plan
completion_seat_plan b now a committed t None = seatless_plan b now a committed
completion_seat_plan b now a committed t (Some c) =
    transaction_plan b now accepted t (on_completion (moment_of b now) a t c a.message)

unfoldable pub completion_plan : Book → ℕ → Arrived → Bool → Option Transaction → Plan
completion_plan b now a committed None = seatless_plan b now a committed
completion_plan b now a committed (Some t) = completion_seat_plan b now a committed t t.completion

-- A coordinator's seat.
abbrev pub find_seat : ℕ → Kind → List Enlistment → Option Enlistment
find_seat number kind seats = find (λ s. nat_eq s.number number && is_kind s.kind kind) seats

abbrev pub seat_plan : Book → ℕ → Arrived → Kind → Transaction → Option Enlistment → Plan
seat_plan b now a kind t None = stranger_plan b now a (coordinator_of kind states.None) a.message
seat_plan b now a kind t (Some s) = transaction_plan b now accepted t (on_seat (moment_of b now) a t s a.message)

unfoldable pub coordinator_plan : Book → ℕ → Arrived → ℕ → Kind → Option Transaction → Plan
coordinator_plan b now a number kind None = stranger_plan b now a (coordinator_of kind states.None) a.message
coordinator_plan b now a number kind (Some t) = seat_plan b now a kind t (find_seat number kind t.seats)

-- A participant: a leaf of this kind, or a subordinate's link.
abbrev pub leaf_or_stranger_plan : Book → ℕ → Arrived → Kind → Option Leaf → Plan
leaf_or_stranger_plan b now a kind None = stranger_plan b now a (participant_of kind states.None) a.message
leaf_or_stranger_plan b now a kind (Some l) =
    if is_kind l.kind kind
    then leaf_plan b now accepted l (on_leaf (moment_of b now) a l a.message)
    else stranger_plan b now a (participant_of kind states.None) a.message

abbrev pub link_plan : Book → ℕ → Arrived → Kind → Transaction → Option Superior → Plan
link_plan b now a kind t None = stranger_plan b now a (participant_of kind states.None) a.message
link_plan b now a kind t (Some s) = transaction_plan b now accepted t (on_link (moment_of b now) a kind t s a.message)

unfoldable pub participant_plan : Book → ℕ → Arrived → Kind → Option Transaction → Option Leaf → Plan
participant_plan b now a kind (Some t) l = link_plan b now a kind t t.superior
participant_plan b now a kind None l = leaf_or_stranger_plan b now a kind l

-- An activity.
unfoldable pub initiator_plan : Book → ℕ → Arrived → Option Activity → Plan
initiator_plan b now a None = stranger_plan b now a (initiator_of states.None) a.message
initiator_plan b now a (Some x) = activity_plan b now accepted x (on_activity (moment_of b now) a x a.message)

-- Work.
abbrev pub employed_plan : Book → ℕ → Option Leaf → List Out → Plan
employed_plan b now None os = plain (still (at_time now b) os)
employed_plan b now (Some l) os = plain (still (make_leaf (at_time now b) l) os)

unfoldable pub work_plan : Book → ℕ → Arrived → Message → Plan
work_plan b now a (messages.Work w) =
    let made : Employment = on_work (moment_of b now) (length b.leaves) a w (next_id b) in
    employed_plan b now made.leaf made.outs
work_plan b now a other = nothing b now

-- A message, by its target.
unfoldable pub arrived_plan : Book → ℕ → Arrived → Target → Plan
arrived_plan b now a targets.Activation = activation_plan b now a a.message
arrived_plan b now a (targets.Registration id) = registration_plan b now a a.message (transaction_at b id)
arrived_plan b now a (targets.Completion id) = completion_plan b now a (has_committed b id) (transaction_at b id)
arrived_plan b now a (targets.Coordinator id seat) = coordinator_plan b now a seat.number seat.kind (transaction_at b id)
arrived_plan b now a (targets.Participant id kind) = participant_plan b now a kind (transaction_at b id) (leaf_at b id)
arrived_plan b now a (targets.Initiator id) = initiator_plan b now a (activity_at b id)
arrived_plan b now a targets.Work = work_plan b now a a.message

-- A node has at most 256 activities.
abbrev pub no_room : Book → Option Numbers → Option Refusal
no_room b None = if nat_lt (length b.activities) MOST_ACTIVITIES then Some Spent else Some Full
no_room b (Some id) = if nat_lt (length b.activities) MOST_ACTIVITIES then None else Some Full

-- the activity that a request names may take it
abbrev pub refuses_named : Option Activity → Option Refusal → Option Refusal
refuses_named None more = Some Stale
refuses_named (Some a) more = if is_active a.progress then more else Some Stale

abbrev pub works_left : Option Activity → Option Refusal
works_left None = Some Stale
works_left (Some a) = if nat_lt a.works last_counter then None else Some Spent

abbrev pub only_begun : Option Activity → Option Refusal
only_begun None = Some Stale
only_begun (Some a) = if is_begun a then None else Some Stale

-- Why a request is refused, the first that holds: the state of the activity that it names, no room, nothing left to
-- count with.
abbrev pub refuses : Book → Local → Option Refusal
refuses b (locals.Begin coordinator ms) = no_room b (next_id b)
refuses b (locals.Interpose activity coordinator) = refuses_named (activity_at b activity) (no_room b (next_id b))
refuses b (locals.Work activity url kind vote key value) =
    refuses_named (activity_at b activity) (works_left (activity_at b activity))
refuses b (locals.Commit activity) = refuses_named (activity_at b activity) (only_begun (activity_at b activity))
refuses b (locals.Rollback activity) = refuses_named (activity_at b activity) (only_begun (activity_at b activity))

abbrev pub begun_plan : Book → ℕ → Beginning → Plan
begun_plan b now x = plain (still (make_activity (at_time now b) x.activity) (map outs.Post x.posts))

abbrev pub begin_plan : Book → ℕ → List ℕ → ℕ → Option Numbers → Plan
begin_plan b now coordinator ms None = plain (still b [])
begin_plan b now coordinator ms (Some id) = begun_plan b now (on_begin (moment_of b now) id coordinator ms)

abbrev pub interpose_plan : Book → ℕ → List ℕ → Option Numbers → Option Activity → Plan
interpose_plan b now coordinator None a = plain (still b [])
interpose_plan b now coordinator (Some id) None = plain (still b [])
interpose_plan b now coordinator (Some id) (Some a) =
    begun_plan b now (on_interpose (moment_of b now) id coordinator a.root a.context)

abbrev pub asking_plan : Book → ℕ → (Activity → Change Activity) → Option Activity → Plan
asking_plan b now change None = plain (still b [])
asking_plan b now change (Some a) = activity_plan b now [] a (Goes (change a))

unfoldable pub request_plan : Book → ℕ → Local → Plan
request_plan b now (locals.Begin coordinator ms) = begin_plan b now coordinator ms (next_id b)
request_plan b now (locals.Interpose activity coordinator) =
    interpose_plan b now coordinator (next_id b) (activity_at b activity)
request_plan b now (locals.Work activity url kind vote key value) =
    asking_plan b now (λ a. on_ask (moment_of b now) url kind vote key value a a.context) (activity_at b activity)
request_plan b now (locals.Commit activity) =
    asking_plan b now (on_complete (moment_of b now) notices.Commit) (activity_at b activity)
request_plan b now (locals.Rollback activity) =
    asking_plan b now (on_complete (moment_of b now) notices.Rollback) (activity_at b activity)

-- A request that is refused changes nothing.
abbrev pub local_plan : Book → ℕ → Local → Option Refusal → Plan
local_plan b now l None = request_plan b now l
local_plan b now l (Some refusal) = plain (still b [])

-- An item that is due.
abbrev pub transaction_due_plan : Book → ℕ → Option Transaction → Plan
transaction_due_plan b now None = plain (still b [])
transaction_due_plan b now (Some t) =
    transaction_plan b now [] t (transaction_reached (moment_of b now) t (transaction_due (moment_of b now) t))

abbrev pub leaf_due_plan : Book → ℕ → Option Leaf → Plan
leaf_due_plan b now None = plain (still b [])
leaf_due_plan b now (Some l) = leaf_plan b now [] l (leaf_reached (moment_of b now) l (leaf_due (moment_of b now) l))

abbrev pub activity_due_plan : Book → ℕ → Option Activity → Plan
activity_due_plan b now None = plain (still b [])
activity_due_plan b now (Some a) =
    activity_plan b now [] a (activity_reached (moment_of b now) a (activity_due (moment_of b now) a))

unfoldable pub due_plan : Book → ℕ → Item → Plan
due_plan b now (items.Transaction id) = transaction_due_plan b now (transaction_at b id)
due_plan b now (items.Leaf id) = leaf_due_plan b now (leaf_at b id)
due_plan b now (items.Activity id) = activity_due_plan b now (activity_at b id)

-- The plan of an event.
abbrev pub plan : Book → Event → ℕ → Plan
plan b (events.Arrived a) now = arrived_plan b now a a.target
plan b (events.Local l) now = local_plan b now l (refuses b l)
plan b (events.Due item) now = due_plan b now item
plan b events.Tick now = nothing b now

abbrev pub branch : Plan → Bool → Outcome
branch p landed = if landed then p.landed else p.absent

-- A step: the outcome of an event, where its record landed, and where it didn't.
abbrev pub step : Book → Event → ℕ → Bool → Outcome
step b e now landed = branch (plan b e now) landed

-- whether an item is due
abbrev pub is_reached : Reached → Bool
is_reached Expired = true
is_reached Over = true
is_reached Unanswered = true
is_reached Nothing = false

abbrev pub is_due_at : {A : Type 0} → (A → Reached) → Option A → Bool
is_due_at reached None = false
is_due_at reached (Some x) = is_reached (reached x)

abbrev pub is_due : Book → ℕ → Item → Bool
is_due b now (items.Transaction id) = is_due_at (transaction_due (moment_of b now)) (transaction_at b id)
is_due b now (items.Leaf id) = is_due_at (leaf_due (moment_of b now)) (leaf_at b id)
is_due b now (items.Activity id) = is_due_at (activity_due (moment_of b now)) (activity_at b id)

-- The items of a book in the order in which they are asked whether they are due: transactions, leaves, activities, each
-- in the order of making.
abbrev pub transaction_item : Transaction → Item
transaction_item t = items.Transaction t.id

abbrev pub leaf_item : Leaf → Item
leaf_item l = items.Leaf l.id

abbrev pub activity_item : Activity → Item
activity_item a = items.Activity a.id

abbrev pub items_of : Book → List Item
items_of b = map transaction_item b.transactions ++ (map leaf_item b.leaves ++ map activity_item b.activities)
