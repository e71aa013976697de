-- A book with what became of one item, or with a new one: with what is asked of endpoints and texts.
use Rattle.std.specs.Prelude.{ℕ, List, [], ◌∷◌, Option, Some, None, Bool, true, false, IfSome, if◌then◌else◌, nat_lt, not, ◌+◌, ◌≡◌, ◌<◌}
use Rattle.std.specs.List.{AllByRecursion, find}
use Rattle.std.proofs.Common.{arith, refl}
use Rattle.std.proofs.lemmas.Bool.{ltb-true}
use Rattle.at_base.specs.IdText.{IsId}
use Rattle.at_base.specs.Numbers.{Numbers}
use Rattle.at_model.specs.Book.{Activity, Book, Leaf, Transaction, activity_id, find_by, is_id, last_counter, leaf_id, next_id, put_by, transaction_id}
use Rattle.at_model.specs.Step.{at_time, is_under, make_activity, make_leaf, make_transaction, put_activities, put_activity, put_leaf, put_transaction}
use Rattle.model_laws.proofs.DecisionLaws.{IfThere, all_filter, all_join, all_put, either_of}
use Rattle.provenance.specs.Forms.{Forms, IsActivity, IsBook, IsLeaf, IsTransaction}

-- what is found
pub found_by : {A : Type 0} (P : A → Type 0) (key : A → Numbers) (id : Numbers) (xs : List A) → AllByRecursion P xs → IfSome (find_by key id xs) P
found_by P key id [] h = tt
found_by P key id (x ∷ xs) (h, k) = either_of (λ o. IfSome o P) (is_id (key x) id) (Some x) (find_by key id xs) (λ e. h) (λ e. found_by P key id xs k)

pub found : {A : Type 0} (P : A → Type 0) (test : A → Bool) (xs : List A) → AllByRecursion P xs → IfSome (find test xs) P
found P test [] h = tt
found P test (x ∷ xs) (h, k) = either_of (λ o. IfSome o P) (test x) (Some x) (find test xs) (λ e. h) (λ e. found P test xs k)

-- the next id
next_passes : (F : Forms) (b : Book) (test : Bool) → IsBook F b → nat_lt b.counter last_counter ≡ test
    → IfSome (if test then Some (record { incarnation = b.incarnation; counter = b.counter + 1 }) else None) IsId
next_passes F b true h e =
    let most : b.counter < last_counter = ltb-true b.counter last_counter e in
    record {
      incarnation_least = h.incarnation_least;
      incarnation_most = h.incarnation_most;
      counter_least = omega arith;
      counter_most = omega (arith, most);
    }
next_passes F b false h e = tt

pub next_is_id : (F : Forms) (b : Book) → IsBook F b → IfSome (next_id b) IsId
next_is_id F b h = next_passes F b (nat_lt b.counter last_counter) h refl

-- one item put or made
pub put_transaction_passes : (F : Forms) (b : Book) (now : ℕ) (id : Numbers) (t : Option Transaction) → IsBook F b → IfThere (IsTransaction F) t → IsBook F (put_transaction id (at_time now b) t)
put_transaction_passes F b now id t h k = record {
  incarnation_least = h.incarnation_least;
  incarnation_most = h.incarnation_most;
  transactions = all_put (IsTransaction F) transaction_id id t b.transactions k h.transactions;
  leaves = h.leaves;
  activities = h.activities;
}

pub put_leaf_passes : (F : Forms) (b : Book) (now : ℕ) (id : Numbers) (l : Option Leaf) → IsBook F b → IfThere (IsLeaf F) l → IsBook F (put_leaf id (at_time now b) l)
put_leaf_passes F b now id l h k = record {
  incarnation_least = h.incarnation_least;
  incarnation_most = h.incarnation_most;
  transactions = h.transactions;
  leaves = all_put (IsLeaf F) leaf_id id l b.leaves k h.leaves;
  activities = h.activities;
}

put_activities_pass : (F : Forms) (id : Numbers) (a : Option Activity) (list : List Activity) → IfThere (IsActivity F) a → AllByRecursion (IsActivity F) list
    → AllByRecursion (IsActivity F) (put_activities id a list)
put_activities_pass F id None list h k =
    all_filter (IsActivity F) (λ a. not (is_under id a)) (put_by activity_id id None list) (all_put (IsActivity F) activity_id id None list tt k)
put_activities_pass F id (Some a) list h k = all_put (IsActivity F) activity_id id (Some a) list h k

pub put_activity_passes : (F : Forms) (b : Book) (now : ℕ) (id : Numbers) (a : Option Activity) → IsBook F b → IfThere (IsActivity F) a → IsBook F (put_activity id (at_time now b) a)
put_activity_passes F b now id a h k = record {
  incarnation_least = h.incarnation_least;
  incarnation_most = h.incarnation_most;
  transactions = h.transactions;
  leaves = h.leaves;
  activities = put_activities_pass F id a b.activities k h.activities;
}

pub make_transaction_passes : (F : Forms) (b : Book) (now : ℕ) (t : Transaction) → IsBook F b → IsTransaction F t → IsBook F (make_transaction (at_time now b) t)
make_transaction_passes F b now t h k = record {
  incarnation_least = h.incarnation_least;
  incarnation_most = h.incarnation_most;
  transactions = all_join (IsTransaction F) b.transactions (t ∷ []) h.transactions (k, tt);
  leaves = h.leaves;
  activities = h.activities;
}

pub make_leaf_passes : (F : Forms) (b : Book) (now : ℕ) (l : Leaf) → IsBook F b → IsLeaf F l → IsBook F (make_leaf (at_time now b) l)
make_leaf_passes F b now l h k = record {
  incarnation_least = h.incarnation_least;
  incarnation_most = h.incarnation_most;
  transactions = h.transactions;
  leaves = all_join (IsLeaf F) b.leaves (l ∷ []) h.leaves (k, tt);
  activities = h.activities;
}

pub make_activity_passes : (F : Forms) (b : Book) (now : ℕ) (a : Activity) → IsBook F b → IsActivity F a → IsBook F (make_activity (at_time now b) a)
make_activity_passes F b now a h k = record {
  incarnation_least = h.incarnation_least;
  incarnation_most = h.incarnation_most;
  transactions = h.transactions;
  leaves = h.leaves;
  activities = all_join (IsActivity F) b.activities (a ∷ []) h.activities (k, tt);
}
