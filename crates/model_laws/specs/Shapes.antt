-- What a step may do to a book.
use Rattle.std.specs.Prelude.{ℕ, List, [], Option, Some, None, true, false, length, map, ◌++◌, ◌≡◌, ◌⊎◌}
use Rattle.at_base.specs.Numbers.{Numbers}
use Rattle.at_base.specs.declared.notice.Kind.{Kind}
use Rattle.at_base.specs.declared.notice.Vote.{Vote}
use Rattle.at_base.specs.declared.notice.Notice.{Notice}
use Rattle.at_base.specs.declared.notice.Notice.TheVariants as notices
use Rattle.at_base.specs.declared.message.Create.{Create}
use Rattle.at_base.specs.declared.message.Register.{Register}
use Rattle.at_base.specs.declared.message.Work.{Work}
use Rattle.at_base.specs.declared.message.Message.TheVariants as messages
use Rattle.at_base.specs.declared.event.Arrived.{Arrived}
use Rattle.at_base.specs.declared.event.Item.TheVariants as items
use Rattle.at_base.specs.declared.event.Local.{Local}
use Rattle.at_base.specs.declared.event.Local.TheVariants as locals
use Rattle.at_base.specs.declared.event.Event.{Event}
use Rattle.at_base.specs.declared.event.Event.TheVariants as events
use Rattle.at_base.specs.declared.target.Target.{Target}
use Rattle.at_base.specs.declared.target.Target.TheVariants as targets
use Rattle.at_base.specs.declared.outs.Out.{Out}
use Rattle.at_base.specs.declared.outs.Out.TheVariants as outs
use Rattle.at_tables.specs.declared.cells.State.TheVariants as states
use Rattle.at_tables.specs.declared.cells.Cell.{Cell}
use Rattle.at_base.specs.Names.{is_kind}
use Rattle.at_tables.specs.Tables.{coordinator_of, participant_of, completion_of, initiator_of}
use Rattle.at_model.specs.Book.{Book, Transaction, Leaf, Activity, Enlistment, Completion, Superior, next_id}
use Rattle.at_model.specs.Posts.{accepted}
use Rattle.at_model.specs.Moves.{Decision, Goes}
use Rattle.at_model.specs.Register.{on_register, protocol_named, register_unknown}
use Rattle.at_model.specs.Arrivals.{on_seat, on_link, on_completion}
use Rattle.at_model.specs.Create.{on_create}
use Rattle.at_model.specs.Leaves.{on_leaf, on_work}
use Rattle.at_model.specs.Activities.{on_activity, on_begin, on_interpose, on_ask, on_complete}
use Rattle.at_model.specs.Due.{transaction_due, transaction_reached, leaf_due, leaf_reached, activity_due, activity_reached}
use Rattle.at_model.specs.Step.{Plan, plain, still, at_time, moment_of, make_transaction, make_leaf, make_activity, transaction_plan, leaf_plan, activity_plan, registration_outcome, stranger_cell, find_seat, transaction_at, leaf_at, activity_at, plan, has_committed, outcome_cell}
use Rattle.model_laws.specs.Laws.{IsOrdered}

-- nothing, or that a one-way message was accepted
abbrev pub IsAnswer : List Out → Type 0
IsAnswer answer = (answer ≡ []) ⊎ (answer ≡ accepted)

-- where something is found, it is so
abbrev pub IfFound : {A : Type 0} → (A → Type 0) → Option A → Type 0
IfFound P None = Unit {0}
IfFound P (Some a) = P a

abbrev pub NoParticipant : Kind → Option Transaction → Option Leaf → Type 0
NoParticipant kind (Some t) l = t.superior ≡ None
NoParticipant kind None l = IfFound (λ x. is_kind x.kind kind ≡ false) l

-- The target names no seat, no participant of this kind, or no activity, of the book.
abbrev pub IsUnknownAt : Book → Target → Type 0
IsUnknownAt b (targets.Completion id) = IfFound (λ t. t.completion ≡ None) (transaction_at b id) × (has_committed b id ≡ false)
IsUnknownAt b (targets.Coordinator id seat) = IfFound (λ t. find_seat seat.number seat.kind t.seats ≡ None) (transaction_at b id)
IsUnknownAt b (targets.Participant id kind) = NoParticipant kind (transaction_at b id) (leaf_at b id)
IsUnknownAt b (targets.Initiator id) = activity_at b id ≡ None
IsUnknownAt b other = ⊥

-- the state None of the target's table
abbrev pub unknown_cell : Target → Notice → Option Cell
unknown_cell (targets.Completion id) = completion_of states.None
unknown_cell (targets.Coordinator id seat) = coordinator_of seat.kind states.None
unknown_cell (targets.Participant id kind) = participant_of kind states.None
unknown_cell (targets.Initiator id) = initiator_of states.None
unknown_cell other = λ n. None

-- What is answered to a message that moves nothing: that it was accepted; by the table's state None where it is for
-- nothing that is known; by the state Done where its root committed; or why a transaction, a registration or a leaf is refused.
pub data Answers (b : Book) (now : ℕ) (a : Arrived) (os : List Out) : Type 0 where
  ignored : os ≡ accepted → Answers b now a os
  unknown : (n : Notice) → a.message ≡ messages.Notice n → IsUnknownAt b a.target
      → os ≡ accepted ++ map outs.Post (stranger_cell b.base a.target a.from a.id (unknown_cell a.target n)) → Answers b now a os
  committed : (n : Notice) (id : Numbers) → a.message ≡ messages.Notice n → a.target ≡ targets.Completion id → has_committed b id ≡ true
      → os ≡ accepted ++ map outs.Post (outcome_cell b.base a.target a.from a.id (completion_of states.Done n)) → Answers b now a os
  not_created : (c : Create) → a.target ≡ targets.Activation → a.message ≡ messages.Create c → (on_create (moment_of b now) (length b.transactions) a c (next_id b)).transaction ≡ None
      → os ≡ (on_create (moment_of b now) (length b.transactions) a c (next_id b)).outs → Answers b now a os
  not_registered : (id : Numbers) (r : Register) → a.target ≡ targets.Registration id → a.message ≡ messages.Register r → transaction_at b id ≡ None
      → os ≡ register_unknown a r (protocol_named r.protocol) → Answers b now a os
  not_employed : (w : Work) → a.target ≡ targets.Work → a.message ≡ messages.Work w → (on_work (moment_of b now) (length b.leaves) a w (next_id b)).leaf ≡ None
      → os ≡ (on_work (moment_of b now) (length b.leaves) a w (next_id b)).outs → Answers b now a os

-- A message names this seat of the transaction.
pub record IsAtSeat (a : Arrived) (t : Transaction) (s : Enlistment) : Type 0 where
  pub number : ℕ
  pub kind : Kind
  pub target : a.target ≡ targets.Coordinator t.id (record { number = number; kind = kind })
  pub found : find_seat number kind t.seats ≡ Some s

-- How a transaction moves: by a message at one of its seats, at one of its links or at its completion seat; or since it
-- is due.
pub data MovesTransaction (b : Book) (e : Event) (now : ℕ) (t : Transaction) (d : Decision Transaction) : Type 0 where
  at_seat : (a : Arrived) (s : Enlistment) → e ≡ events.Arrived a → IsAtSeat a t s → d ≡ on_seat (moment_of b now) a t s a.message → MovesTransaction b e now t d
  at_link : (a : Arrived) (kind : Kind) (s : Superior) → e ≡ events.Arrived a → a.target ≡ targets.Participant t.id kind → t.superior ≡ Some s
      → d ≡ on_link (moment_of b now) a kind t s a.message → MovesTransaction b e now t d
  at_completion : (a : Arrived) (c : Completion) → e ≡ events.Arrived a → a.target ≡ targets.Completion t.id → t.completion ≡ Some c
      → d ≡ on_completion (moment_of b now) a t c a.message → MovesTransaction b e now t d
  when_due : e ≡ events.Due (items.Transaction t.id) → d ≡ transaction_reached (moment_of b now) t (transaction_due (moment_of b now) t) → MovesTransaction b e now t d

-- How a leaf moves: by a message, or since it is due.
pub data MovesLeaf (b : Book) (e : Event) (now : ℕ) (l : Leaf) (d : Decision Leaf) : Type 0 where
  at_leaf : (a : Arrived) → e ≡ events.Arrived a → a.target ≡ targets.Participant l.id l.kind → d ≡ on_leaf (moment_of b now) a l a.message → MovesLeaf b e now l d
  leaf_when_due : e ≡ events.Due (items.Leaf l.id) → d ≡ leaf_reached (moment_of b now) l (leaf_due (moment_of b now) l) → MovesLeaf b e now l d

-- the request that an activity completes so
abbrev pub completion_request : Notice → Numbers → Option Local
completion_request notices.Commit id = Some (locals.Commit id)
completion_request notices.Rollback id = Some (locals.Rollback id)
completion_request other id = None

-- How an activity moves: by a message, since it is due, or by a request of its program.
pub data MovesActivity (b : Book) (e : Event) (now : ℕ) (a : Activity) (d : Decision Activity) : Type 0 where
  at_activity : (r : Arrived) → e ≡ events.Arrived r → r.target ≡ targets.Initiator a.id → d ≡ on_activity (moment_of b now) r a r.message → MovesActivity b e now a d
  activity_when_due : e ≡ events.Due (items.Activity a.id) → d ≡ activity_reached (moment_of b now) a (activity_due (moment_of b now) a) → MovesActivity b e now a d
  works : (url : List ℕ) (kind : Kind) (vote : Vote) (key value : List ℕ) → e ≡ events.Local (locals.Work a.id url kind vote key value)
      → d ≡ Goes (on_ask (moment_of b now) url kind vote key value a a.context) → MovesActivity b e now a d
  completes : (n : Notice) (l : Local) → e ≡ events.Local l → completion_request n a.id ≡ Some l → d ≡ Goes (on_complete (moment_of b now) n a) → MovesActivity b e now a d

-- How an activity is made, and what it posts: begun, or interposed under one that stands in the book.
pub data MakesActivity (b : Book) (e : Event) (now : ℕ) (id : Numbers) (a : Activity) (os : List Out) : Type 0 where
  begins : (coordinator : List ℕ) (ms : ℕ) → e ≡ events.Local (locals.Begin coordinator ms) → a ≡ (on_begin (moment_of b now) id coordinator ms).activity
      → os ≡ map outs.Post (on_begin (moment_of b now) id coordinator ms).posts → MakesActivity b e now id a os
  interposes : (coordinator : List ℕ) (named : Numbers) (x : Activity) → e ≡ events.Local (locals.Interpose named coordinator) → activity_at b named ≡ Some x
      → a ≡ (on_interpose (moment_of b now) id coordinator x.root x.context).activity
      → os ≡ map outs.Post (on_interpose (moment_of b now) id coordinator x.root x.context).posts → MakesActivity b e now id a os

-- All that a step may do to a book: nothing, or to note the time; one item that stands in it moves by one of its rules; a transaction that
-- stands in it takes a registration; or one item is made, under the next id.
pub data Shape (b : Book) (e : Event) (now : ℕ) (p : Plan) : Type 0 where
  nothing_moves : p ≡ plain (still b []) → Shape b e now p
  time_moves : (a : Arrived) (os : List Out) → e ≡ events.Arrived a → Answers b now a os → IsOrdered os → p ≡ plain (still (at_time now b) os) → Shape b e now p
  time_passes : e ≡ events.Tick → p ≡ plain (still (at_time now b) accepted) → Shape b e now p
  transaction_moves : (id : Numbers) (t : Transaction) (answer : List Out) (d : Decision Transaction) → transaction_at b id ≡ Some t → MovesTransaction b e now t d
      → IsAnswer answer → p ≡ transaction_plan b now answer t d → Shape b e now p
  leaf_moves : (id : Numbers) (l : Leaf) (answer : List Out) (d : Decision Leaf) → leaf_at b id ≡ Some l → MovesLeaf b e now l d
      → IsAnswer answer → p ≡ leaf_plan b now answer l d → Shape b e now p
  activity_moves : (id : Numbers) (a : Activity) (answer : List Out) (d : Decision Activity) → activity_at b id ≡ Some a → MovesActivity b e now a d
      → IsAnswer answer → p ≡ activity_plan b now answer a d → Shape b e now p
  transaction_registers : (id : Numbers) (a : Arrived) (r : Register) (t : Transaction) → transaction_at b id ≡ Some t → e ≡ events.Arrived a → a.target ≡ targets.Registration id
      → a.message ≡ messages.Register r
      → IsOrdered (on_register (moment_of b now) a r t).outs → p ≡ plain (registration_outcome b now (on_register (moment_of b now) a r t)) → Shape b e now p
  transaction_made : (a : Arrived) (c : Create) (id : Numbers) (t : Transaction) (os : List Out) → e ≡ events.Arrived a → a.target ≡ targets.Activation → a.message ≡ messages.Create c
      → next_id b ≡ Some id → (on_create (moment_of b now) (length b.transactions) a c (Some id)).transaction ≡ Some t
      → os ≡ (on_create (moment_of b now) (length b.transactions) a c (Some id)).outs
      → IsOrdered os → p ≡ plain (still (make_transaction (at_time now b) t) os) → Shape b e now p
  leaf_made : (a : Arrived) (w : Work) (id : Numbers) (l : Leaf) (os : List Out) → e ≡ events.Arrived a → a.target ≡ targets.Work → a.message ≡ messages.Work w
      → next_id b ≡ Some id → (on_work (moment_of b now) (length b.leaves) a w (Some id)).leaf ≡ Some l
      → os ≡ (on_work (moment_of b now) (length b.leaves) a w (Some id)).outs
      → IsOrdered os → p ≡ plain (still (make_leaf (at_time now b) l) os) → Shape b e now p
  activity_made : (id : Numbers) (a : Activity) (os : List Out) → next_id b ≡ Some id → MakesActivity b e now id a os
      → IsOrdered os → p ≡ plain (still (make_activity (at_time now b) a) os) → Shape b e now p

-- Every plan has one of these shapes.
abbrev pub StepsTouchOne : Type 0
StepsTouchOne = (b : Book) (e : Event) (now : ℕ) → Shape b e now (plan b e now)
