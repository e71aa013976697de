-- What one record more in a journal does to the live ones, which recovery goes by (WS-AtomicTransaction 1.2, section 3.3.4).
use Rattle.std.specs.Prelude.{ℕ, List, [], ◌∷◌, ◌++◌, Bool, true, false, not, ◌||◌, filter, ◌≡◌, ◌⊎◌}
use Rattle.std.specs.List.{list_any}
use Rattle.at_base.specs.Numbers.{Numbers}
use Rattle.at_base.specs.declared.record.Record.{Record}
use Rattle.at_base.specs.declared.record.Record.TheVariants as records
use Rattle.at_model.specs.Recovery.{ends_leaf, ends_transaction, is_decided, is_leaf_ended, is_leaf_prepared, is_promise, is_sub_committed, is_voted, kept, live}
use Rattle.model_laws.specs.Agreement.{IsIn}

-- The further record r ends this live one: it is the end of its id, or another promise of it.
abbrev pub drops : Record → Record → Bool
drops r (records.LeafPrepared id coordinator key value) = ends_leaf id r
drops r (records.Voted id superior seats) = ends_transaction id r
drops r (records.Decided id seats) = ends_transaction id r
drops r (records.SubCommitted id) = ends_transaction id r
drops r other = false

-- any record but a subordinate's commit
abbrev pub IsNoSubCommit : Record → Type 0
IsNoSubCommit (records.SubCommitted id) = ⊥
IsNoSubCommit other = Unit {0}

-- x is the commit r of a live vote
pub record Confirms (rs : List Record) (r x : Record) : Type 0 where
  pub id : Numbers
  pub further : r ≡ records.SubCommitted id
  pub same : x ≡ records.SubCommitted id
  pub voted : list_any (is_voted id) (live rs) ≡ true

-- what is about a transaction
abbrev pub is_of_transaction : Numbers → Record → Bool
is_of_transaction id r = is_voted id r || (is_decided id r || is_sub_committed id r)

pub record JournalsLive : Type 0 where
  -- a start changes nothing
  pub start : (rs : List Record) (incarnation : ℕ) → live (rs ++ records.Start incarnation ∷ []) ≡ live rs
  -- what a further record ends is gone, and what it promises is live behind the others
  pub more : (rs : List Record) (r : Record) → IsNoSubCommit r → live (rs ++ r ∷ []) ≡ filter (λ x. not (drops r x)) (live rs) ++ kept r []
  -- the first promise of an id ends nothing
  pub promised : (rs : List Record) (id : Numbers) (r : Record) → is_promise id r ≡ true → list_any (is_promise id) rs ≡ false → live (rs ++ r ∷ []) ≡ live rs ++ kept r []
  -- record by record: what stays live, and what was or came to be so
  pub stays : (rs : List Record) (r x : Record) → IsIn x (live rs) → drops r x ≡ false → IsIn x (live (rs ++ r ∷ []))
  pub was : (rs : List Record) (r x : Record) → IsIn x (live (rs ++ r ∷ [])) → (IsIn x (live rs) × (drops r x ≡ false)) ⊎ (IsIn x (kept r []) ⊎ Confirms rs r x)
  -- a subordinate's commit is live with its vote
  pub confirmed : (rs : List Record) (id : Numbers) → list_any (is_voted id) (live rs) ≡ true → IsIn (records.SubCommitted id) (live (rs ++ records.SubCommitted id ∷ []))
  -- an end leaves no promise of its id
  pub leaf_over : (rs : List Record) (id : Numbers) (r : Record) → is_leaf_ended id r ≡ true → list_any (is_leaf_prepared id) (live (rs ++ r ∷ [])) ≡ false
  pub over : (rs : List Record) (id : Numbers) → list_any (is_of_transaction id) (live (rs ++ records.Ended id ∷ [])) ≡ false
