-- A node's book: what it knows of its transactions, leaves and activities. Plain lists in the order of making, with no
-- counts and no index.
use Rattle.std.specs.Prelude.{ℕ, List, [], ◌∷◌, Option, Some, None, Bool, nat_eq, nat_lt, ◌+◌, ◌&&◌, if◌then◌else◌, bytes_eq}
use Rattle.at_base.specs.Numbers.{Numbers}
use Rattle.at_base.specs.declared.notice.Kind.{Kind}
use Rattle.at_base.specs.declared.notice.Vote.{Vote}
use Rattle.at_base.specs.declared.notice.Notice.{Notice}
use Rattle.at_base.specs.declared.epr.Epr.{Epr}
use Rattle.at_base.specs.declared.epr.Reply.{Reply}
use Rattle.at_base.specs.declared.message.Context.{Context}
use Rattle.at_tables.specs.declared.cells.State.{State}

-- A participant that a transaction accepted (WS-Coordination 1.2, section 3.2): its number, from 1 in the order of
-- registration, the protocol it registered for, its endpoint, and the state of its seat.
pub record Enlistment : Type 0 where
  pub number : ℕ
  pub kind : Kind
  pub participant : Epr
  pub state : State

-- The initiator that registered for Completion (WS-AtomicTransaction 1.2, section 3.2), and the state of its seat.
pub record Completion : Type 0 where
  pub initiator : Epr
  pub state : State

-- One of a subordinate's two registrations at its superior: its state, and the endpoint of the superior's seat for it
-- once that is known.
pub record Link : Type 0 where
  pub state : State
  pub coordinator : Option Epr

-- A subordinate's CreateCoordinationContext that is still to be answered: its MessageID, where its reply and its fault
-- go, the Expires of the answer, and where the subordinate registers.
pub record Request : Type 0 where
  pub id : Option (List ℕ)
  pub reply : Epr
  pub fault : Reply
  pub expires : Option ℕ
  pub registration : Epr

-- What makes a transaction a subordinate.
pub record Superior : Type 0 where
  pub volatile : Link
  pub durable : Link
  pub request : Option Request

-- Where a transaction stands (this project's profile of WS-AtomicTransaction 1.2, section 3.3).
pub data Phase : Type 0 where
  Registering : Phase
  Active : Phase
  Volatile : Phase
  Durable : Phase
  Voted : Phase
  Committing : Phase
  Aborting : Phase

pub record Transaction : Type 0 where
  pub id : Numbers
  pub identifier : List ℕ
  pub superior : Option Superior
  pub phase : Phase
  -- when it expires
  pub deadline : Option ℕ
  -- when it last sent a message that is repeated
  pub sent : Option ℕ
  -- when it aborted
  pub aborted : Option ℕ
  pub seats : List Enlistment
  pub completion : Option Completion

-- A Work that is still to be answered: its MessageID, where its answer goes, and where the leaf registers.
pub record WorkRequest : Type 0 where
  pub id : Option (List ℕ)
  pub reply : Epr
  pub registration : Epr

-- A participant that does work of its own.
pub record Leaf : Type 0 where
  pub id : Numbers
  pub kind : Kind
  pub vote : Vote
  pub key : List ℕ
  pub value : List ℕ
  pub state : State
  pub coordinator : Option Epr
  pub request : Option WorkRequest
  pub deadline : Option ℕ
  pub sent : Option ℕ

-- How far an activity has come. Completing holds what was asked for, Commit or Rollback.
pub data Progress : Type 0 where
  Creating : Progress
  Registering : Progress
  Active : Progress
  Completing : Notice → Progress

-- An initiator's activity. One that was begun is its own root; one that was interposed is under the root of the one it
-- was interposed in.
pub record Activity : Type 0 where
  pub id : Numbers
  pub root : Numbers
  pub progress : Progress
  pub context : Option Context
  pub coordinator : Option Epr
  -- how many Works it sent
  pub works : ℕ
  pub deadline : Option ℕ
  pub sent : Option ℕ

pub record Book : Type 0 where
  pub base : List ℕ
  pub incarnation : ℕ
  -- how many ids were drawn in this incarnation
  pub counter : ℕ
  -- the greatest time seen, in milliseconds
  pub seen : ℕ
  -- the last roots that committed, the newest last
  pub outcomes : List Numbers
  pub transactions : List Transaction
  pub leaves : List Leaf
  pub activities : List Activity

abbrev pub is_id : Numbers → Numbers → Bool
is_id a b = nat_eq a.incarnation b.incarnation && nat_eq a.counter b.counter

abbrev pub is_epr : Epr → Epr → Bool
is_epr a b = bytes_eq a.address b.address && bytes_eq a.params b.params

-- the item with this id
abbrev pub find_by : {A : Type 0} → (A → Numbers) → Numbers → List A → Option A
find_by key id [] = None
find_by key id (x ∷ xs) = if is_id (key x) id then Some x else find_by key id xs

-- the list with the item of this id given anew, or without it
abbrev pub put_by : {A : Type 0} → (A → Numbers) → Numbers → Option A → List A → List A
put_by key id new [] = []
put_by key id None (x ∷ xs) = if is_id (key x) id then xs else x ∷ put_by key id None xs
put_by key id (Some y) (x ∷ xs) = if is_id (key x) id then y ∷ xs else x ∷ put_by key id (Some y) xs

abbrev pub transaction_id : Transaction → Numbers
transaction_id t = t.id

abbrev pub leaf_id : Leaf → Numbers
leaf_id l = l.id

abbrev pub activity_id : Activity → Numbers
activity_id a = a.id

-- the greatest number that an id may hold
abbrev pub last_counter : ℕ
last_counter = 4294967295

-- the id that the next item gets; none where the counter is spent
abbrev pub next_id : Book → Option Numbers
next_id b = if nat_lt b.counter last_counter then Some (record { incarnation = b.incarnation; counter = b.counter + 1 }) else None
