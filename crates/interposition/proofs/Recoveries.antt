-- The book of what is left of records is that of the records.
use Rattle.std.specs.Prelude.{ℕ, List, [], ◌∷◌, ◌++◌, ◌-◌, Result, Ok, Err, IfOk, Bool, true, false, not, ◌||◌, if◌then◌else◌, length, drop, filter, ◌≡◌, ◌≤◌, refl}
use Rattle.std.specs.List.{list_any, AllByRecursion}
use Rattle.std.proofs.Common.{sym, ap, subst, arith, ◌∙◌}
use Rattle.std.proofs.lemmas.List.{length-drop}
use Rattle.at_base.specs.Numbers.{Numbers}
use Rattle.at_base.specs.declared.epr.Epr.{Epr}
use Rattle.at_base.specs.declared.limits.TheConstants.{MOST_OUTCOMES}
use Rattle.at_base.specs.declared.record.Seated.{Seated}
use Rattle.at_base.specs.declared.record.Record.{Record}
use Rattle.at_base.specs.declared.record.Record.TheVariants as records
use Rattle.at_model.specs.Book.{Book, is_id, transaction_id, leaf_id}
use Rattle.at_model.specs.Outcomes.{newest, outcomes_after, put_last, with_outcome}
use Rattle.at_model.specs.Recovery.{in_order, live, with_commit, no_seats, ends_leaf, ends_transaction, is_sub_committed, transactions_of, leaves_of, recovered_voted, recovered_decided, recover, is_before}
use Rattle.model_laws.specs.Compactions.{RecoversTheCompacted, compacted, record_id}
use Rattle.model_laws.proofs.RecoveryLaws.{none_live, self_id}
use Rattle.coordinator_at.specs.Recoveries.{commits, first_of, transactions_in}
use Rattle.interposition.specs.Recoveries.{RecoversAsTheModel, StandFor, recovered}
use Rattle.interposition.proofs.RisingIds.{AreSorted, IsNoLess, in_order_sorted, stays_in_order}

-- a live record in front is no SubCommitted
leads : (id : Numbers) (r : Record) (b : Bool) (rest : List Record) → is_sub_committed id r ≡ false → commits id (first_of rest) ≡ false
    → commits id (first_of ((if b then [] else r ∷ []) ++ rest)) ≡ false
leads id r true rest e f = f
leads id r false rest e f = e

leads_vote : (id i : Numbers) (superior : Epr) (seats : List Seated) (b : Bool) (more rest : List Record) → commits id (first_of rest) ≡ false
    → commits id (first_of ((if b then [] else records.Voted i superior seats ∷ more) ++ rest)) ≡ false
leads_vote id i superior seats true more rest f = f
leads_vote id i superior seats false more rest f = refl

no_commit_first : (id : Numbers) (rs : List Record) → commits id (first_of (live rs)) ≡ false
no_commit_first id [] = refl
no_commit_first id (records.LeafPrepared i c key value ∷ rest) =
    leads id (records.LeafPrepared i c key value) (list_any (ends_leaf i) rest) (live rest) refl (no_commit_first id rest)
no_commit_first id (records.Voted i superior seats ∷ rest) =
    leads_vote id i superior seats (list_any (ends_transaction i) rest) (with_commit i rest) (live rest) (no_commit_first id rest)
no_commit_first id (records.Decided i seats ∷ rest) =
    leads id (records.Decided i seats) (no_seats seats || list_any (ends_transaction i) rest) (live rest) refl (no_commit_first id rest)
no_commit_first id (records.Start n ∷ rest) = no_commit_first id rest
no_commit_first id (records.LeafCommitted i ∷ rest) = no_commit_first id rest
no_commit_first id (records.LeafAborted i ∷ rest) = no_commit_first id rest
no_commit_first id (records.SubCommitted i ∷ rest) = no_commit_first id rest
no_commit_first id (records.Ended i ∷ rest) = no_commit_first id rest
no_commit_first id (records.Done i ∷ rest) = no_commit_first id rest

-- a SubCommitted stands directly behind its Voted
vote_kept : (base : List ℕ) (id : Numbers) (superior : Epr) (seats : List Seated) (rest : List Record) (b : Bool) → list_any (is_sub_committed id) rest ≡ b
    → transactions_in base (live rest) ≡ transactions_of base (live rest)
    → transactions_in base (records.Voted id superior seats ∷ ((if b then records.SubCommitted id ∷ [] else []) ++ live rest))
    ≡ transactions_of base (records.Voted id superior seats ∷ ((if b then records.SubCommitted id ∷ [] else []) ++ live rest))
vote_kept base id superior seats rest true e h =
    (λ i. recovered_voted id superior seats (self_id id i) ∷ h i)
    ∙ (λ i. recovered_voted id superior seats (sym (self_id id) i || list_any (is_sub_committed id) (live rest)) ∷ transactions_of base (live rest))
vote_kept base id superior seats rest false e h =
    (λ i. recovered_voted id superior seats (no_commit_first id rest i) ∷ h i)
    ∙ (λ i. recovered_voted id superior seats (sym (none_live (is_sub_committed id) rest e) i) ∷ transactions_of base (live rest))

vote_live : (base : List ℕ) (id : Numbers) (superior : Epr) (seats : List Seated) (rest : List Record) (b : Bool)
    → transactions_in base (live rest) ≡ transactions_of base (live rest)
    → transactions_in base ((if b then [] else records.Voted id superior seats ∷ with_commit id rest) ++ live rest)
    ≡ transactions_of base ((if b then [] else records.Voted id superior seats ∷ with_commit id rest) ++ live rest)
vote_live base id superior seats rest true h = h
vote_live base id superior seats rest false h = vote_kept base id superior seats rest (list_any (is_sub_committed id) rest) refl h

leaf_live : (base : List ℕ) (id : Numbers) (c : Epr) (key value : List ℕ) (rest : List Record) (b : Bool)
    → transactions_in base rest ≡ transactions_of base rest
    → transactions_in base ((if b then [] else records.LeafPrepared id c key value ∷ []) ++ rest)
    ≡ transactions_of base ((if b then [] else records.LeafPrepared id c key value ∷ []) ++ rest)
leaf_live base id c key value rest true h = h
leaf_live base id c key value rest false h = h

root_live : (base : List ℕ) (id : Numbers) (seats : List Seated) (rest : List Record) (b : Bool)
    → transactions_in base rest ≡ transactions_of base rest
    → transactions_in base ((if b then [] else records.Decided id seats ∷ []) ++ rest)
    ≡ transactions_of base ((if b then [] else records.Decided id seats ∷ []) ++ rest)
root_live base id seats rest true h = h
root_live base id seats rest false h = ap (λ ts. recovered_decided base id seats ∷ ts) h

in_live : (base : List ℕ) (rs : List Record) → transactions_in base (live rs) ≡ transactions_of base (live rs)
in_live base [] = refl
in_live base (records.LeafPrepared id c key value ∷ rest) = leaf_live base id c key value (live rest) (list_any (ends_leaf id) rest) (in_live base rest)
in_live base (records.Voted id superior seats ∷ rest) = vote_live base id superior seats rest (list_any (ends_transaction id) rest) (in_live base rest)
in_live base (records.Decided id seats ∷ rest) = root_live base id seats (live rest) (no_seats seats || list_any (ends_transaction id) rest) (in_live base rest)
in_live base (records.Start n ∷ rest) = in_live base rest
in_live base (records.LeafCommitted id ∷ rest) = in_live base rest
in_live base (records.LeafAborted id ∷ rest) = in_live base rest
in_live base (records.SubCommitted id ∷ rest) = in_live base rest
in_live base (records.Ended id ∷ rest) = in_live base rest
in_live base (records.Done id ∷ rest) = in_live base rest

-- what records by rising id promise is by rising id
voted_id : (P : Numbers → Type 0) (id : Numbers) (superior : Epr) (seats : List Seated) (b : Bool) → P id → P (recovered_voted id superior seats b).id
voted_id P id superior seats true h = h
voted_id P id superior seats false h = h

all_transactions : (P : Numbers → Type 0) (base : List ℕ) (rs : List Record) → AllByRecursion (λ r. P (record_id r)) rs
    → AllByRecursion (λ t. P (transaction_id t)) (transactions_of base rs)
all_transactions P base [] h = tt
all_transactions P base (records.Voted id superior seats ∷ rest) (h, k) = (voted_id P id superior seats (list_any (is_sub_committed id) rest) h, all_transactions P base rest k)
all_transactions P base (records.Decided id seats ∷ rest) (h, k) = (h, all_transactions P base rest k)
all_transactions P base (records.LeafPrepared id c key value ∷ rest) (h, k) = all_transactions P base rest k
all_transactions P base (records.Start n ∷ rest) (h, k) = all_transactions P base rest k
all_transactions P base (records.LeafCommitted id ∷ rest) (h, k) = all_transactions P base rest k
all_transactions P base (records.LeafAborted id ∷ rest) (h, k) = all_transactions P base rest k
all_transactions P base (records.SubCommitted id ∷ rest) (h, k) = all_transactions P base rest k
all_transactions P base (records.Ended id ∷ rest) (h, k) = all_transactions P base rest k
all_transactions P base (records.Done id ∷ rest) (h, k) = all_transactions P base rest k

all_leaves : (P : Numbers → Type 0) (rs : List Record) → AllByRecursion (λ r. P (record_id r)) rs → AllByRecursion (λ l. P (leaf_id l)) (leaves_of rs)
all_leaves P [] h = tt
all_leaves P (records.LeafPrepared id c key value ∷ rest) (h, k) = (h, all_leaves P rest k)
all_leaves P (records.Voted id superior seats ∷ rest) (h, k) = all_leaves P rest k
all_leaves P (records.Decided id seats ∷ rest) (h, k) = all_leaves P rest k
all_leaves P (records.Start n ∷ rest) (h, k) = all_leaves P rest k
all_leaves P (records.LeafCommitted id ∷ rest) (h, k) = all_leaves P rest k
all_leaves P (records.LeafAborted id ∷ rest) (h, k) = all_leaves P rest k
all_leaves P (records.SubCommitted id ∷ rest) (h, k) = all_leaves P rest k
all_leaves P (records.Ended id ∷ rest) (h, k) = all_leaves P rest k
all_leaves P (records.Done id ∷ rest) (h, k) = all_leaves P rest k

voted_first : (base : List ℕ) (id : Numbers) (superior : Epr) (seats : List Seated) (rest : List Record) (b : Bool)
    → AllByRecursion (λ t. is_before (transaction_id t) id ≡ false) (transactions_of base rest)
    → AllByRecursion (IsNoLess transaction_id (recovered_voted id superior seats b)) (transactions_of base rest)
voted_first base id superior seats rest true h = h
voted_first base id superior seats rest false h = h

sorted_transactions : (base : List ℕ) (rs : List Record) → AreSorted record_id rs → AreSorted transaction_id (transactions_of base rs)
sorted_transactions base [] h = tt
sorted_transactions base (records.Voted id superior seats ∷ rest) (h, k) =
    (voted_first base id superior seats rest (list_any (is_sub_committed id) rest) (all_transactions (λ i. is_before i id ≡ false) base rest h), sorted_transactions base rest k)
sorted_transactions base (records.Decided id seats ∷ rest) (h, k) =
    (all_transactions (λ i. is_before i id ≡ false) base rest h, sorted_transactions base rest k)
sorted_transactions base (records.LeafPrepared id c key value ∷ rest) (h, k) = sorted_transactions base rest k
sorted_transactions base (records.Start n ∷ rest) (h, k) = sorted_transactions base rest k
sorted_transactions base (records.LeafCommitted id ∷ rest) (h, k) = sorted_transactions base rest k
sorted_transactions base (records.LeafAborted id ∷ rest) (h, k) = sorted_transactions base rest k
sorted_transactions base (records.SubCommitted id ∷ rest) (h, k) = sorted_transactions base rest k
sorted_transactions base (records.Ended id ∷ rest) (h, k) = sorted_transactions base rest k
sorted_transactions base (records.Done id ∷ rest) (h, k) = sorted_transactions base rest k

sorted_leaves : (rs : List Record) → AreSorted record_id rs → AreSorted leaf_id (leaves_of rs)
sorted_leaves [] h = tt
sorted_leaves (records.LeafPrepared id c key value ∷ rest) (h, k) = (all_leaves (λ i. is_before i id ≡ false) rest h, sorted_leaves rest k)
sorted_leaves (records.Voted id superior seats ∷ rest) (h, k) = sorted_leaves rest k
sorted_leaves (records.Decided id seats ∷ rest) (h, k) = sorted_leaves rest k
sorted_leaves (records.Start n ∷ rest) (h, k) = sorted_leaves rest k
sorted_leaves (records.LeafCommitted id ∷ rest) (h, k) = sorted_leaves rest k
sorted_leaves (records.LeafAborted id ∷ rest) (h, k) = sorted_leaves rest k
sorted_leaves (records.SubCommitted id ∷ rest) (h, k) = sorted_leaves rest k
sorted_leaves (records.Ended id ∷ rest) (h, k) = sorted_leaves rest k
sorted_leaves (records.Done id ∷ rest) (h, k) = sorted_leaves rest k

-- no more outcomes are kept than may be
last_few : (most : ℕ) (ids : List Numbers) → length (drop (length ids - most) ids) ≤ most
last_few most ids = omega (arith, length-drop (length ids - most) ids)

outcomes_few : (rs : List Record) (ids : List Numbers) → length ids ≤ MOST_OUTCOMES → length (outcomes_after ids rs) ≤ MOST_OUTCOMES
outcomes_few [] ids h = h
outcomes_few (r ∷ rest) ids h = outcomes_few rest (with_outcome r ids) (one r)
  where
    put : (id : Numbers) → length (put_last id ids) ≤ MOST_OUTCOMES
    put id = last_few MOST_OUTCOMES (filter (λ i. not (is_id i id)) ids ++ id ∷ [])

    one : (r : Record) → length (with_outcome r ids) ≤ MOST_OUTCOMES
    one (records.Decided id seats) = put id
    one (records.Done id) = put id
    one (records.Start n) = h
    one (records.LeafPrepared id c key value) = h
    one (records.LeafCommitted id) = h
    one (records.LeafAborted id) = h
    one (records.Voted id superior seats) = h
    one (records.SubCommitted id) = h
    one (records.Ended id) = h

all_newest : (most : ℕ) (ids : List Numbers) → length ids ≤ most → drop (length ids - most) ids ≡ ids
all_newest most ids h = ap (λ n. drop n ids) (none_over (length ids) most h)
  where
    none_over : (m n : ℕ) → m ≤ n → m - n ≡ 0
    none_over m n h = omega (arith, h)

-- the two lists of what is left
abbrev left_of : List Record → List Record
left_of rs = in_order record_id (live rs)

transactions_left : RecoversTheCompacted → (base : List ℕ) (rs : List Record)
    → transactions_in base (left_of rs) ≡ in_order transaction_id (transactions_of base (live rs))
transactions_left law base rs =
    ap (transactions_in base) (sym (law.live rs)) ∙ in_live base (compacted rs)
    ∙ sym (stays_in_order transaction_id (transactions_of base (live (compacted rs)))
    (subst (λ xs. AreSorted transaction_id (transactions_of base xs)) (sym (law.live rs)) (sorted_transactions base (left_of rs) (in_order_sorted record_id (live rs)))))
    ∙ ap (λ b. b.transactions) (law.book base rs)

leaves_left : RecoversTheCompacted → (rs : List Record) → leaves_of (left_of rs) ≡ in_order leaf_id (leaves_of (live rs))
leaves_left law rs =
    sym (stays_in_order leaf_id (leaves_of (left_of rs)) (sorted_leaves (left_of rs) (in_order_sorted record_id (live rs))))
    ∙ ap (λ xs. in_order leaf_id (leaves_of xs)) (sym (law.live rs))
    ∙ ap (λ b. b.leaves) (law.book [] rs)

pub recovers_as_the_model : RecoversTheCompacted → RecoversAsTheModel
recovers_as_the_model law base rs live done incarnation h = λ i. record {
  base = base;
  incarnation = h.incarnation i;
  counter = 0;
  seen = 0;
  outcomes = (ap newest h.done ∙ all_newest MOST_OUTCOMES (outcomes_after [] rs) (outcomes_few rs [] none)) i;
  transactions = (ap (transactions_in base) h.live ∙ transactions_left law base rs) i;
  leaves = (ap leaves_of h.live ∙ leaves_left law rs) i;
  activities = [];
}
  where
    none : 0 ≤ MOST_OUTCOMES
    none = omega arith

-- the book that was made is the one that records stand for
pub made_as_the_model : {E : Type 0} (result : Result Book E) (base : List ℕ) (live : List Record) (done : List Numbers) (incarnation : ℕ)
    → RecoversAsTheModel → IfOk result (λ b. b ≡ recovered base live done incarnation)
    → (rs : List Record) → StandFor rs live done incarnation → IfOk result (λ b. b ≡ recover base rs)
made_as_the_model (Ok b) base live done incarnation law h rs k = h ∙ law base rs live done incarnation k
made_as_the_model (Err e) base live done incarnation law h rs k = tt
