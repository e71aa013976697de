-- What is undecided is lost where a node goes down, and what is promised is recovered as it was.
use Rattle.std.specs.Prelude.{ℕ, List, [], ◌∷◌, ◌++◌, Option, Some, None, Bool, true, false, if◌then◌else◌, ◌&&◌, ◌||◌, ◌+◌, is_none, is_some, length, map, filter, ◌≡◌, ◌⊎◌, ◌≤◌, refl}
use Rattle.std.specs.List.{list_any, AllByRecursion}
use Rattle.std.proofs.Common.{inl, inr, sym, subst, ap, ◌∙◌}
use Rattle.std.proofs.lemmas.List.{append-nil}
use Rattle.at_base.specs.Numbers.{Numbers}
use Rattle.at_base.specs.declared.record.Record.{Record}
use Rattle.at_base.specs.declared.record.Record.TheVariants as records
use Rattle.at_base.specs.declared.outs.Effect.{Effect}
use Rattle.at_base.specs.declared.outs.Ending.TheVariants as endings
use Rattle.at_tables.specs.declared.cells.State.TheVariants as states
use Rattle.at_tables.specs.Names.{is_state}
use Rattle.at_model.specs.Book.{Book, Leaf, Superior, Transaction, find_by, is_id, leaf_id, transaction_id}
use Rattle.at_model.specs.Due.{may_expire}
use Rattle.at_model.specs.Leaves.{leaf_ended}
use Rattle.at_model.specs.Recovery.{in_order, is_before, is_promise, is_sub_committed, last_incarnation, leaves_of, live, recover, recovered_decided, recovered_leaf, recovered_voted, transactions_of}
use Rattle.at_model.specs.Seats.{ending}
use Rattle.at_model.specs.Step.{leaf_at, transaction_at}
use Rattle.at_model.specs.World.{is_lost_leaf, is_lost_root, is_lost_subordinate}
use Rattle.model_laws.specs.Agreement.{IsIn, ends_as}
use Rattle.model_laws.specs.DrawnIds.{restarted}
use Rattle.model_laws.specs.Order.{AreRising, IsInOrder}
use Rattle.model_laws.proofs.DecisionLaws.{found_id}
use Rattle.model_laws.proofs.RecoveryLaws.{same_id, self_id}
use Rattle.agreement.specs.Lives.{Life, PromisesNothing, ends, has_aborted, has_committed, has_decided, has_voted, is_gone, is_undecided, waits, works}
use Rattle.agreement.specs.Recoveries.{StandsFor, StandsForLeaf, leaf_from, transaction_from}
use Rattle.agreement.proofs.Journals.{in_either, journals_live}
use Rattle.agreement.proofs.Recoveries.{from_leaf_promise, from_promise, recovers_each}
use Rattle.agreement.proofs.OtherIds.{Same, any_in, ending_as, ends_join, none_any, none_behind, nothing_live, still}
use Rattle.agreement.proofs.TransactionLives.{IsGone, gone_ended, gone_unended}

-- what is lost
abbrev pub lost : Book → List Effect
lost b =
    map (λ t. ending t endings.Lost) (filter is_lost_root b.transactions)
    ++ (map (λ t. ending t endings.Lost) (filter is_lost_subordinate b.transactions)
    ++ map (λ l. leaf_ended l endings.Lost) (filter is_lost_leaf b.leaves))

abbrev pub of_found : {A : Type 0} → (A → Bool) → (A → Effect) → Option A → List Effect
of_found p f None = []
of_found p f (Some x) = if p x then f x ∷ [] else []

lost_of : {A : Type 0} (key : A → Numbers) (p : A → Bool) (f : A → Effect) (id : Numbers) → ((x : A) → ends_as id (f x) ≡ is_id (key x) id) → (xs : List A) → AreRising (map key xs)
    → ends id (map f (filter p xs)) ≡ of_found p f (find_by key id xs)
lost_of key p f id own [] r = refl
lost_of {A = A} key p f id own (x ∷ xs) (b, r) = by_case (is_id (key x) id) refl (p x) refl (lost_of key p f id own xs r)
  where
    none : is_id (key x) id ≡ true → find_by key id xs ≡ None
    none i = none_behind key id xs (subst (λ j. AllByRecursion (λ k. is_before j k ≡ true) (map key xs)) (same_id (key x) id i) b)

    by_case : (c : Bool) → is_id (key x) id ≡ c → (q : Bool) → p x ≡ q → ends id (map f (filter p xs)) ≡ of_found p f (find_by key id xs)
        → ends id (map f (if q then x ∷ filter p xs else filter p xs)) ≡ of_found p f (if c then Some x else find_by key id xs)
    by_case true i true e h =
        ap (λ z. if z then f x ∷ ends id (map f (filter p xs)) else ends id (map f (filter p xs))) (own x ∙ i) ∙ ap (λ es. f x ∷ es) (h ∙ ap (of_found p f) (none i))
        ∙ sym (ap (λ z. if z then f x ∷ [] else []) e)
    by_case true i false e h = h ∙ ap (of_found p f) (none i) ∙ sym (ap (λ z. if z then f x ∷ [] else []) e)
    by_case false i true e h = ap (λ z. if z then f x ∷ ends id (map f (filter p xs)) else ends id (map f (filter p xs))) (own x ∙ i) ∙ h
    by_case false i false e h = h

abbrev pub lost_as : Option Transaction → Option Leaf → List Effect
lost_as t l =
    of_found is_lost_root (λ x. ending x endings.Lost) t
    ++ (of_found is_lost_subordinate (λ x. ending x endings.Lost) t ++ of_found is_lost_leaf (λ x. leaf_ended x endings.Lost) l)

pub ends_lost : (b : Book) (id : Numbers) → IsInOrder b → ends id (lost b) ≡ lost_as (transaction_at b id) (leaf_at b id)
ends_lost b id order =
    ends_join id (map (λ t. ending t endings.Lost) (filter is_lost_root b.transactions)) _
    ∙ (λ i. lost_of transaction_id is_lost_root (λ t. ending t endings.Lost) id (λ t. ending_as t.id id t.superior endings.Lost) b.transactions order.rising.transactions i
    ++ ends_join id (map (λ t. ending t endings.Lost) (filter is_lost_subordinate b.transactions)) (map (λ l. leaf_ended l endings.Lost) (filter is_lost_leaf b.leaves)) i)
    ∙ (λ i. of_found is_lost_root (λ x. ending x endings.Lost) (transaction_at b id)
    ++ (lost_of transaction_id is_lost_subordinate (λ t. ending t endings.Lost) id (λ t. ending_as t.id id t.superior endings.Lost) b.transactions order.rising.transactions i
    ++ lost_of leaf_id is_lost_leaf (λ l. leaf_ended l endings.Lost) id (λ l. refl) b.leaves order.rising.leaves i))

either_lost : (s : Option Superior) (b : Bool) (e : Effect) → b ≡ true → (if is_none s && b then e ∷ [] else []) ++ ((if is_some s && b then e ∷ [] else []) ++ []) ≡ e ∷ []
either_lost None true e h = refl
either_lost (Some s) true e h = refl
either_lost s false e h = absurd cc

neither_lost : (s : Option Superior) (b : Bool) (e : Effect) → b ≡ false → (if is_none s && b then e ∷ [] else []) ++ ((if is_some s && b then e ∷ [] else []) ++ []) ≡ []
neither_lost None false e h = refl
neither_lost (Some s) false e h = refl
neither_lost s true e h = absurd cc

-- what is recovered
found_in : {A : Type 0} (key : A → Numbers) (id : Numbers) (xs : List A) (x : A) → find_by key id xs ≡ Some x → IsIn x xs
found_in key id [] x e = absurd cc
found_in {A = A} key id (y ∷ ys) x e = by_case (is_id (key y) id) e (λ f. found_in key id ys x f)
  where
    by_case : (b : Bool) → (if b then Some y else find_by key id ys) ≡ Some x → (find_by key id ys ≡ Some x → IsIn x ys) → IsIn x (y ∷ ys)
    by_case true f g = let same : y ≡ x = cc in inl (sym same)
    by_case false f g = inr (g f)

record Behind (base : List ℕ) (rs : List Record) (id : Numbers) (t : Transaction) : Type 0 where
  record_of : Record
  lives : IsIn record_of (live rs)
  is : is_promise id record_of ≡ true
  gives : transaction_from base (live rs) record_of ≡ Some t

behind : (base : List ℕ) (rs : List Record) (id : Numbers) (t : Transaction) → transaction_at (recover base rs) id ≡ Some t → Behind base rs id t
behind base rs id t e =
    let s : StandsFor base (live rs) t = recovers_each.transactions base rs t (found_in transaction_id id (recover base rs).transactions t e) in
    record {
      record_of = s.behind;
      lives = s.live;
      is = subst (λ i. is_promise i s.behind ≡ true) (found_id transaction_id id (recover base rs).transactions t e) (from_promise base (live rs) s.behind t s.is);
      gives = s.is;
    }

record LeafBehind (rs : List Record) (id : Numbers) (l : Leaf) : Type 0 where
  record_of : Record
  lives : IsIn record_of (live rs)
  is : is_promise id record_of ≡ true
  gives : leaf_from record_of ≡ Some l

leaf_behind : (base : List ℕ) (rs : List Record) (id : Numbers) (l : Leaf) → leaf_at (recover base rs) id ≡ Some l → LeafBehind rs id l
leaf_behind base rs id l e =
    let s : StandsForLeaf (live rs) l = recovers_each.leaves base rs l (found_in leaf_id id (recover base rs).leaves l e) in
    record {
      record_of = s.behind;
      lives = s.live;
      is = subst (λ i. is_promise i s.behind ≡ true) (found_id leaf_id id (recover base rs).leaves l e) (from_leaf_promise s.behind l s.is);
      gives = s.is;
    }

never : {A : Type 0} (o : Option A) → ((x : A) → o ≡ Some x → ⊥) → o ≡ None
never None h = refl
never (Some x) h = absurd (h x refl)

none_recovered : (base : List ℕ) (rs : List Record) (id : Numbers) → PromisesNothing id (live rs) → transaction_at (recover base rs) id ≡ None
none_recovered base rs id dead =
    never (transaction_at (recover base rs) id) (λ t e. let s : Behind base rs id t = behind base rs id t e in dead s.record_of s.lives s.is)

no_leaf_recovered : (base : List ℕ) (rs : List Record) (id : Numbers) → PromisesNothing id (live rs) → leaf_at (recover base rs) id ≡ None
no_leaf_recovered base rs id dead =
    never (leaf_at (recover base rs) id) (λ l e. let s : LeafBehind rs id l = leaf_behind base rs id l e in dead s.record_of s.lives s.is)

none_some : {A : Type 0} (x : A) → None ≡ Some x → ⊥
none_some x e = cc

no_leaf_too : (base : List ℕ) (rs : List Record) (id : Numbers) (r : Record) → IsIn r (live rs) → is_promise id r ≡ true → leaf_from r ≡ None → leaf_at (recover base rs) id ≡ None
no_leaf_too base rs id r h p none =
    never (leaf_at (recover base rs) id)
    (λ l e. let s : LeafBehind rs id l = leaf_behind base rs id l e in
    none_some l (sym none ∙ ap leaf_from (recovers_each.single rs id r s.record_of h s.lives p s.is) ∙ s.gives))

no_transaction_too : (base : List ℕ) (rs : List Record) (id : Numbers) (r : Record) → IsIn r (live rs) → is_promise id r ≡ true → transaction_from base (live rs) r ≡ None
    → transaction_at (recover base rs) id ≡ None
no_transaction_too base rs id r h p none =
    never (transaction_at (recover base rs) id)
    (λ t e. let s : Behind base rs id t = behind base rs id t e in
    none_some t (sym none ∙ ap (transaction_from base (live rs)) (recovers_each.single rs id r s.record_of h s.lives p s.is) ∙ s.gives))

is_first : (id : Numbers) → (is_id id id || false) ≡ true
is_first id = ap (λ b. b || false) (self_id id)

own_commit : (id : Numbers) (r : Record) → is_sub_committed id r ≡ true → r ≡ records.SubCommitted id
own_commit id (records.SubCommitted i) e = ap (λ j. records.SubCommitted j) (same_id i id e)
own_commit id other e = absurd cc

no_commit_any : (id : Numbers) (rs : List Record) → (IsIn (records.SubCommitted id) rs → ⊥) → list_any (is_sub_committed id) rs ≡ false
no_commit_any id rs h = none_any (is_sub_committed id) rs (λ r k e. h (subst (λ x. IsIn x rs) (own_commit id r e) k))

-- each item, as its node falls
gone_life : (rs : List Record) (fx : List Effect) (id : Numbers) (t : Option Transaction) (l : Option Leaf) → t ≡ None → l ≡ None → IsGone rs fx id → Life rs fx id t l
gone_life rs fx id t l e f g = is_gone e f g.dead g.over g.once

all_gone : (base : List ℕ) (rs : List Record) (fx : List Effect) (id : Numbers) → IsGone rs fx id → Life rs fx id (transaction_at (recover base rs) id) (leaf_at (recover base rs) id)
all_gone base rs fx id g = gone_life rs fx id (transaction_at (recover base rs) id) (leaf_at (recover base rs) id) (none_recovered base rs id g.dead) (no_leaf_recovered base rs id g.dead) g

abbrev pub Recovered : List ℕ → List Record → List Effect → Numbers → Type 0
Recovered base rs fx id = Life rs fx id (transaction_at (recover base rs) id) (leaf_at (recover base rs) id)

lost_now : (id : Numbers) (fx gx es : List Effect) (t : Option Transaction) (l : Option Leaf) → ends id gx ≡ es → ends id (fx ++ gx) ≡ ends id fx ++ es
lost_now id fx gx es t l e = ends_join id fx gx ∙ ap (λ ys. ends id fx ++ ys) e

nothing_lost : (id : Numbers) (fx gx : List Effect) → ends id gx ≡ [] → ends id (fx ++ gx) ≡ ends id fx
nothing_lost id fx gx e = ends_join id fx gx ∙ ap (λ ys. ends id fx ++ ys) e ∙ append-nil (ends id fx)

first_lost : (id : Numbers) (fx gx : List Effect) (e : Effect) → ends id fx ≡ [] → ends id gx ≡ e ∷ [] → ends id (fx ++ gx) ≡ e ∷ []
first_lost id fx gx e k h = ends_join id fx gx ∙ (λ i. k i ++ h i)

of_transaction : (x : Transaction) (t : Option Transaction) (l : Option Leaf) (gx : List Effect) (id : Numbers) → t ≡ Some x → l ≡ None → ends id gx ≡ lost_as t l → ends id gx ≡ lost_as (Some x) None
of_transaction x t l gx id e f h = h ∙ (λ i. lost_as (e i) (f i))

kept_transaction : (x : Transaction) (t : Option Transaction) (l : Option Leaf) (fx gx : List Effect) (id : Numbers) → t ≡ Some x → l ≡ None → ends id gx ≡ lost_as t l
    → may_expire x.phase ≡ false → ends id (fx ++ gx) ≡ ends id fx
kept_transaction x t l fx gx id e f h c = nothing_lost id fx gx (of_transaction x t l gx id e f h ∙ neither_lost x.superior (may_expire x.phase) (ending x endings.Lost) c)

pub falls_as : (base : List ℕ) (rs : List Record) (fx gx : List Effect) (id : Numbers) (t : Option Transaction) (l : Option Leaf) → ends id gx ≡ lost_as t l → Life rs fx id t l
    → Recovered base rs (fx ++ gx) id
falls_as base rs fx gx id t l h (is_gone e f dead over once) =
    let same : ends id (fx ++ gx) ≡ ends id fx = nothing_lost id fx gx (h ∙ (λ i. lost_as (e i) (f i))) in
    all_gone base rs (fx ++ gx) id
    (record { dead = dead; over = λ r k p n. over r k p (sym same ∙ n); once = subst (λ (es : List Effect). length es ≤ 1) (sym same) once })
falls_as base rs fx gx id t l h (is_undecided x e f o nothing k) =
    all_gone base rs (fx ++ gx) id
    (gone_ended rs (fx ++ gx) id (ending x endings.Lost) (nothing_live id rs nothing)
    (first_lost id fx gx (ending x endings.Lost) k (of_transaction x t l gx id e f h ∙ either_lost x.superior (may_expire x.phase) (ending x endings.Lost) o)))
falls_as base rs fx gx id t l h (has_voted x superior seats e f o u v out k) =
    has_voted (recovered_voted id superior seats false) superior seats
    (recovers_each.transaction base rs (records.Voted id superior seats) (recovered_voted id superior seats false) v
    (ap (λ b. Some (recovered_voted id superior seats b)) (no_commit_any id (live rs) out)))
    (no_leaf_too base rs id (records.Voted id superior seats) v (is_first id) refl) refl refl v out (kept_transaction x t l fx gx id e f h (ap may_expire o) ∙ k)
falls_as base rs fx gx id t l h (has_decided x seats e f o u v k) =
    has_decided (recovered_decided base id seats) seats (recovers_each.transaction base rs (records.Decided id seats) (recovered_decided base id seats) v refl)
    (no_leaf_too base rs id (records.Decided id seats) v (self_id id) refl) refl refl v (kept_transaction x t l fx gx id e f h (ap may_expire o) ∙ k)
falls_as base rs fx gx id t l h (has_committed x superior seats e f o u v c k) =
    has_committed (recovered_voted id superior seats true) superior seats
    (recovers_each.transaction base rs (records.Voted id superior seats) (recovered_voted id superior seats true) v
    (ap (λ b. Some (recovered_voted id superior seats b)) (any_in (is_sub_committed id) (records.SubCommitted id) (live rs) c (self_id id))))
    (no_leaf_too base rs id (records.Voted id superior seats) v (is_first id) refl) refl refl v c (kept_transaction x t l fx gx id e f h (ap may_expire o) ∙ k)
falls_as base rs fx gx id t l h (has_aborted x e f o dead k) =
    all_gone base rs (fx ++ gx) id (gone_ended rs (fx ++ gx) id (ending x endings.Aborted) dead (kept_transaction x t l fx gx id e f h (ap may_expire o) ∙ k))
falls_as base rs fx gx id t l h (works x e f o nothing k) = by_case (is_lost_leaf x) refl
  where
    by_case : (b : Bool) → is_lost_leaf x ≡ b → Recovered base rs (fx ++ gx) id
    by_case true i =
        all_gone base rs (fx ++ gx) id
        (gone_ended rs (fx ++ gx) id (leaf_ended x endings.Lost) (nothing_live id rs nothing)
        (first_lost id fx gx (leaf_ended x endings.Lost) k (h ∙ (λ j. lost_as (e j) (f j)) ∙ ap (λ b. if b then leaf_ended x endings.Lost ∷ [] else []) i)))
    by_case false i =
        all_gone base rs (fx ++ gx) id
        (gone_unended rs (fx ++ gx) id nothing
        (nothing_lost id fx gx (h ∙ (λ j. lost_as (e j) (f j)) ∙ ap (λ b. if b then leaf_ended x endings.Lost ∷ [] else []) i) ∙ k))
falls_as base rs fx gx id t l h (waits x coordinator key value e f d o v k) =
    waits (recovered_leaf id coordinator key value) coordinator key value
    (no_transaction_too base rs id (records.LeafPrepared id coordinator key value) v (is_first id) refl)
    (recovers_each.leaf base rs (records.LeafPrepared id coordinator key value) (recovered_leaf id coordinator key value) v refl) refl refl v
    (nothing_lost id fx gx
    (h ∙ (λ j. lost_as (e j) (f j)) ∙ ap (λ s. if is_state s states.Registering || is_state s states.Active then leaf_ended x endings.Lost ∷ [] else []) o) ∙ k)

-- and as it rises
pub start_same : (rs : List Record) (fx : List Effect) (id : Numbers) → Same id rs (restarted rs) fx fx
start_same rs fx id = record {
  ended = refl;
  stays = λ x e h. subst (IsIn x) (sym (journals_live.start rs (last_incarnation rs + 1))) h;
  was = λ x e h. subst (IsIn x) (journals_live.start rs (last_incarnation rs + 1)) h;
  written = λ x p h. before x p (in_either x rs (records.Start (last_incarnation rs + 1) ∷ []) h);
}
  where
    no_start : (x : Record) → is_promise id x ≡ true → x ≡ records.Start (last_incarnation rs + 1) → ⊥
    no_start x p e = let f : false ≡ true = sym (ap (is_promise id) e) ∙ p in cc

    before : (x : Record) → is_promise id x ≡ true → IsIn x rs ⊎ IsIn x (records.Start (last_incarnation rs + 1) ∷ []) → IsIn x rs
    before x p (inl h) = h
    before x p (inr (inl e)) = absurd (no_start x p e)
    before x p (inr (inr h)) = absurd h

pub rises_as : (base : List ℕ) (rs : List Record) (fx : List Effect) (id : Numbers) → Recovered base rs fx id → Recovered base (restarted rs) fx id
rises_as base rs fx id h =
    subst (λ ls. Life (restarted rs) fx id (find_by transaction_id id (in_order transaction_id (transactions_of base ls))) (find_by leaf_id id (in_order leaf_id (leaves_of ls))))
    (sym (journals_live.start rs (last_incarnation rs + 1)))
    (still id rs (restarted rs) fx fx (transaction_at (recover base rs) id) (leaf_at (recover base rs) id) (start_same rs fx id) h)
