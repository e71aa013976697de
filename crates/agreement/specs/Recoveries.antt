-- What recovery makes of the live records of a journal (WS-AtomicTransaction 1.2, section 3.3.4).
use Rattle.std.specs.Prelude.{ℕ, List, Option, Some, None, true, ◌≡◌}
use Rattle.std.specs.List.{list_any}
use Rattle.at_base.specs.Numbers.{Numbers}
use Rattle.at_base.specs.declared.record.Record.{Record}
use Rattle.at_base.specs.declared.record.Record.TheVariants as records
use Rattle.at_model.specs.Book.{Leaf, Transaction}
use Rattle.at_model.specs.Recovery.{is_promise, is_sub_committed, is_voted, live, recover, recovered_decided, recovered_leaf, recovered_voted}
use Rattle.at_model.specs.Step.{leaf_at, transaction_at}
use Rattle.model_laws.specs.Agreement.{IsIn}

-- what one of these records stands for
abbrev pub transaction_from : List ℕ → List Record → Record → Option Transaction
transaction_from base rs (records.Voted id superior seats) = Some (recovered_voted id superior seats (list_any (is_sub_committed id) rs))
transaction_from base rs (records.Decided id seats) = Some (recovered_decided base id seats)
transaction_from base rs other = None

abbrev pub leaf_from : Record → Option Leaf
leaf_from (records.LeafPrepared id coordinator key value) = Some (recovered_leaf id coordinator key value)
leaf_from other = None

-- one of these records stands for the transaction, for the leaf
pub record StandsFor (base : List ℕ) (rs : List Record) (t : Transaction) : Type 0 where
  pub behind : Record
  pub live : IsIn behind rs
  pub is : transaction_from base rs behind ≡ Some t

pub record StandsForLeaf (rs : List Record) (l : Leaf) : Type 0 where
  pub behind : Record
  pub live : IsIn behind rs
  pub is : leaf_from behind ≡ Some l

-- Recovery finds each transaction and each leaf that a live record promises, by its id, and no other. A voted subordinate is
-- committing where its commit is live too.
pub record RecoversEach : Type 0 where
  -- one promise of each id is live, and a subordinate's commit only with its vote
  pub single : (rs : List Record) (id : Numbers) (r x : Record) → IsIn r (live rs) → IsIn x (live rs) → is_promise id r ≡ true → is_promise id x ≡ true → r ≡ x
  pub with_vote : (rs : List Record) (id : Numbers) → IsIn (records.SubCommitted id) (live rs) → list_any (is_voted id) (live rs) ≡ true
  pub transaction : (base : List ℕ) (rs : List Record) (r : Record) (t : Transaction) → IsIn r (live rs) → transaction_from base (live rs) r ≡ Some t
      → transaction_at (recover base rs) t.id ≡ Some t
  pub leaf : (base : List ℕ) (rs : List Record) (r : Record) (l : Leaf) → IsIn r (live rs) → leaf_from r ≡ Some l → leaf_at (recover base rs) l.id ≡ Some l
  pub transactions : (base : List ℕ) (rs : List Record) (t : Transaction) → IsIn t (recover base rs).transactions → StandsFor base (live rs) t
  pub leaves : (base : List ℕ) (rs : List Record) (l : Leaf) → IsIn l (recover base rs).leaves → StandsForLeaf (live rs) l
