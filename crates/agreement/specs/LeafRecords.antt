-- Which records stand behind the leaves of a book.
use Rattle.std.specs.Prelude.{ℕ, List, Option, Some, false, ◌≡◌}
use Rattle.std.specs.List.{list_any, AllByRecursion}
use Rattle.at_base.specs.Numbers.{Numbers}
use Rattle.at_base.specs.declared.epr.Epr.{Epr}
use Rattle.at_base.specs.declared.notice.Kind.{Kind}
use Rattle.at_base.specs.declared.notice.Kind.TheVariants as kinds
use Rattle.at_base.specs.declared.record.Record.{Record}
use Rattle.at_base.specs.declared.record.Record.TheVariants as records
use Rattle.at_tables.specs.declared.cells.State.{State}
use Rattle.at_tables.specs.declared.cells.State.TheVariants as states
use Rattle.at_model.specs.Book.{Book, Leaf}
use Rattle.at_model.specs.Recovery.{is_promise, live}
use Rattle.at_model.specs.World.{Node, WorldEvent, nth, run_of, Hosts}
use Rattle.model_laws.specs.Agreement.{IsIn}

-- A durable leaf that has voted Prepared has its record live, with the coordinator that it knows; of every other leaf nothing
-- is promised.
abbrev pub IsBacked : List Record → Numbers → Option Epr → List ℕ → List ℕ → Kind → State → Type 0
IsBacked rs id coordinator key value kinds.Durable states.PreparedSuccess = (to : Epr) × (coordinator ≡ Some to) × IsIn (records.LeafPrepared id to key value) (live rs)
IsBacked rs id coordinator key value kind state = list_any (is_promise id) rs ≡ false

abbrev pub LeafBacked : List Record → Leaf → Type 0
LeafBacked rs l = IsBacked rs l.id l.coordinator l.key l.value l.kind l.state

-- a durable leaf of the book that waits for the outcome, with what its record names
pub record Waiting (b : Book) (id : Numbers) (to : Epr) (name value : List ℕ) : Type 0 where
  pub leaf : Leaf
  pub there : IsIn leaf b.leaves
  pub own : leaf.id ≡ id
  pub durable : leaf.kind ≡ kinds.Durable
  pub waits : leaf.state ≡ states.PreparedSuccess
  pub coordinator : leaf.coordinator ≡ Some to
  pub named : leaf.key ≡ name
  pub valued : leaf.value ≡ value

-- So it is in every run (WS-AtomicTransaction 1.2, section 3.3.2): what a durable leaf votes survives a crash.
pub record LeavesAreBacked : Type 0 where
  pub backed : (hosts : Hosts) (es : List WorldEvent) (n : ℕ) (x : Node) (b : Book) → nth n (run_of hosts es).nodes ≡ Some x → x.book ≡ Some b → AllByRecursion (LeafBacked x.journal) b.leaves
  -- and each such record has its leaf
  pub waiting : (hosts : Hosts) (es : List WorldEvent) (n : ℕ) (x : Node) (b : Book) → nth n (run_of hosts es).nodes ≡ Some x → x.book ≡ Some b
      → (id : Numbers) (to : Epr) (key value : List ℕ) → IsIn (records.LeafPrepared id to key value) (live x.journal) → Waiting b id to key value
