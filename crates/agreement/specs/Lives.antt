-- What a node's book, its journal and what happened at it say of each item: they agree, also where the node is down and
-- its records stand for its book.
use Rattle.std.specs.Prelude.{ℕ, List, [], ◌∷◌, Option, Some, None, true, false, nat_eq, if◌then◌else◌, length, filter, is_none, ◌≡◌, ◌⊎◌, ◌≤◌}
use Rattle.at_base.specs.Numbers.{Numbers}
use Rattle.at_base.specs.declared.epr.Epr.{Epr}
use Rattle.at_base.specs.declared.notice.Kind.TheVariants as kinds
use Rattle.at_base.specs.declared.record.Seated.{Seated}
use Rattle.at_base.specs.declared.record.Record.{Record}
use Rattle.at_base.specs.declared.record.Record.TheVariants as records
use Rattle.at_base.specs.declared.outs.Ending.TheVariants as endings
use Rattle.at_base.specs.declared.outs.Effect.{Effect}
use Rattle.at_base.specs.declared.outs.Effect.TheVariants as effects
use Rattle.at_tables.specs.declared.cells.State.TheVariants as states
use Rattle.at_model.specs.Book.{Book, Leaf, Phase, Transaction}
use Rattle.at_model.specs.Due.{may_expire}
use Rattle.at_model.specs.Recovery.{is_promise, live, recover}
use Rattle.at_model.specs.Seats.{ending}
use Rattle.at_model.specs.Step.{leaf_at, transaction_at}
use Rattle.at_model.specs.World.{Happened, Node, WorldEvent, nth, run_of, Hosts}
use Rattle.model_laws.specs.Agreement.{HasAborted, HasCommitted, IsIn, ends_as}

-- what happened at a node
abbrev pub happened_on : ℕ → List Happened → List Effect
happened_on n [] = []
happened_on n (h ∷ hs) = if nat_eq h.node n then h.what ∷ happened_on n hs else happened_on n hs

-- how an item ended
abbrev pub ends : Numbers → List Effect → List Effect
ends id fx = filter (ends_as id) fx

-- None of these records is a promise of the id: a leaf's or a subordinate's vote, or a root's decision.
abbrev pub PromisesNothing : Numbers → List Record → Type 0
PromisesNothing id rs = (r : Record) → IsIn r rs → is_promise id r ≡ true → ⊥

-- A leaf of which nothing is recorded: it hasn't voted Prepared, or it is volatile.
abbrev pub IsUnrecorded : Leaf → Type 0
IsUnrecorded l = (l.state ≡ states.Registering) ⊎ ((l.state ≡ states.Active) ⊎ (l.kind ≡ kinds.Volatile))

-- What the book holds of an id, a transaction, a leaf or neither; and what the records of the journal and the effects say
-- of it then (WS-AtomicTransaction 1.2, sections 3.3.3 and 3.3.4).
pub data Life (rs : List Record) (fx : List Effect) (id : Numbers) (t : Option Transaction) (l : Option Leaf) : Type 0 where
  -- It holds nothing of it: no promise of it is live; where one was made, the item has ended; and it ended once at most.
  is_gone : t ≡ None → l ≡ None → PromisesNothing id (live rs) → ((r : Record) → IsIn r rs → is_promise id r ≡ true → ends id fx ≡ [] → ⊥) → length (ends id fx) ≤ 1
      → Life rs fx id t l
  -- An undecided transaction has promised nothing, and hasn't ended.
  is_undecided : (x : Transaction) → t ≡ Some x → l ≡ None → may_expire x.phase ≡ true → PromisesNothing id rs → ends id fx ≡ [] → Life rs fx id t l
  -- A subordinate that has voted has its vote recorded, and no outcome.
  has_voted : (x : Transaction) (superior : Epr) (seats : List Seated) → t ≡ Some x → l ≡ None → x.phase ≡ Phase.Voted → is_none x.superior ≡ false
      → IsIn (records.Voted id superior seats) (live rs) → (IsIn (records.SubCommitted id) (live rs) → ⊥) → ends id fx ≡ [] → Life rs fx id t l
  -- A root that commits has its decision recorded, and has committed.
  has_decided : (x : Transaction) (seats : List Seated) → t ≡ Some x → l ≡ None → x.phase ≡ Phase.Committing → x.superior ≡ None → IsIn (records.Decided id seats) (live rs)
      → ends id fx ≡ effects.Root id endings.Committed ∷ [] → Life rs fx id t l
  -- A subordinate that commits has its vote and its commit recorded, and has committed.
  has_committed : (x : Transaction) (superior : Epr) (seats : List Seated) → t ≡ Some x → l ≡ None → x.phase ≡ Phase.Committing → is_none x.superior ≡ false
      → IsIn (records.Voted id superior seats) (live rs) → IsIn (records.SubCommitted id) (live rs) → ends id fx ≡ effects.Sub id endings.Committed ∷ [] → Life rs fx id t l
  -- A transaction that aborts has aborted, and no promise of it is live.
  has_aborted : (x : Transaction) → t ≡ Some x → l ≡ None → x.phase ≡ Phase.Aborting → PromisesNothing id (live rs) → ends id fx ≡ ending x endings.Aborted ∷ [] → Life rs fx id t l
  -- A leaf of which nothing is recorded has promised nothing, and hasn't ended.
  works : (x : Leaf) → t ≡ None → l ≡ Some x → IsUnrecorded x → PromisesNothing id rs → ends id fx ≡ [] → Life rs fx id t l
  -- A durable leaf that has voted Prepared has its vote recorded, and hasn't ended.
  waits : (x : Leaf) (coordinator : Epr) (key value : List ℕ) → t ≡ None → l ≡ Some x → x.kind ≡ kinds.Durable → x.state ≡ states.PreparedSuccess
      → IsIn (records.LeafPrepared id coordinator key value) (live rs) → ends id fx ≡ [] → Life rs fx id t l

-- the book of a node, or, while it is down, the one that its records stand for
abbrev pub standing : List ℕ → List Record → Option Book → Book
standing base rs None = recover base rs
standing base rs (Some b) = b

abbrev pub book_of : Node → Book
book_of x = standing x.base x.journal x.book

-- So it is in every run, of each node and each id.
pub record LivesAgree : Type 0 where
  pub lives : (hosts : Hosts) (es : List WorldEvent) (n : ℕ) (x : Node) → nth n (run_of hosts es).nodes ≡ Some x → (id : Numbers)
      → Life x.journal (happened_on n (run_of hosts es).happened) id (transaction_at (book_of x) id) (leaf_at (book_of x) id)
  -- an item that has committed never aborts, and isn't lost
  pub one : (hosts : Hosts) (es : List WorldEvent) (n : ℕ) (x : Node) → nth n (run_of hosts es).nodes ≡ Some x → (id : Numbers)
      → HasCommitted (run_of hosts es) (record { node = n; id = id }) → HasAborted (run_of hosts es) (record { node = n; id = id }) → ⊥
  -- and each ends once at most
  pub once : (hosts : Hosts) (es : List WorldEvent) (n : ℕ) (x : Node) → nth n (run_of hosts es).nodes ≡ Some x → (id : Numbers)
      → length (ends id (happened_on n (run_of hosts es).happened)) ≤ 1
