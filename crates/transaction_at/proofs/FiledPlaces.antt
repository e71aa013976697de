-- An index finds what a walk finds, and is kept as one key more comes behind the others.
use Rattle.std.proofs.Common.{ℕ, suc, zero, List, [], ◌∷◌, ◌++◌, ◌≡◌, ◌<◌, ◌≤◌, ◌∙◌, refl, sym, ap, subst, Option, Some, None, Bool, true, false, length, get_or, arith, insert, nat_eq, nat_lt, ltb-true, ltb-false, true≢false}
use Rattle.std.proofs.lemmas.Bool.{eqb-true, eqb-false}
use Rattle.std.specs.Prelude.{slice_get, find, option_map, if◌then◌else◌, cond}
use Rattle.std.specs.List.{All, AllPairs, AllWithin, HoldsAt}
use Rattle.std.specs.List.Sorted.{IsPartitionPoint, IsPartitionedBy}
use Rattle.std.specs.Ordering.{is_eq, is_lt, ordering_reverse}
use Rattle.std.specs.declared.cmp.Ordering.{Ordering}
use Rattle.std.specs.declared.cmp.Ordering.TheVariants.{Less, Equal, Greater}
use Rattle.std.specs.Cmp.{IsTotalOrder, tied_back}
use Rattle.std.proofs.lemmas.List.Elements.{All-cons, All-head, All-tail}
use Rattle.std.proofs.lemmas.List.Kept.{AllPairs-cons}
use Rattle.std.proofs.lemmas.Option.{slice_get-get_or}
use Rattle.transaction_at.specs.Filed.{first_place, passes, ties, below, comes, IsFiled}

-- finding by a test

find_at : {A : Type 0} (t : A → Bool) (xs : List A) (p : ℕ) (d : A) → AllWithin (λ x. t x ≡ false) xs 0 p → p < length xs → t (get_or xs p d) ≡ true → find t xs ≡ Some (get_or xs p d)
find_at t [] p d before l e = absurd (omega arith)
find_at t (x ∷ xs) zero d before l e = rw e refl
find_at t (x ∷ xs) (suc p) d before l e = rw (before 0 x (omega arith) (omega arith)) (find_at t xs p d (λ k c z h. before (suc k) c (omega arith) (omega arith)) (omega arith) e)

find_none : {A : Type 0} (t : A → Bool) (xs : List A) → All (λ x. t x ≡ false) xs → find t xs ≡ None
find_none t [] all = refl
find_none t (x ∷ xs) all = rw (all 0 x (omega arith)) (find_none t xs (λ k d l. all (suc k) d (omega arith)))

find_same : {A : Type 0} (t u : A → Bool) (xs : List A) → All (λ x. t x ≡ u x) xs → find t xs ≡ find u xs
find_same t u [] all = refl
find_same t u (x ∷ xs) all =
    ap (λ b. cond b (Some x) (find t xs)) (all 0 x (omega arith)) ∙ ap (λ o. cond (u x) (Some x) o) (find_same t u xs (λ k d l. all (suc k) d (omega arith)))

-- one more in the middle

abbrev put_in : {A : Type 0} → A → ℕ → List A → List A
put_in x zero xs = x ∷ xs
put_in x (suc p) [] = x ∷ []
put_in x (suc p) (y ∷ ys) = y ∷ put_in x p ys

inserted : {A : Type 0} (x : A) (p : ℕ) (xs : List A) → insert xs p x ≡ put_in x p xs
inserted x zero xs = refl
inserted x (suc p) [] = refl
inserted x (suc p) (y ∷ ys) = ap (λ zs. y ∷ zs) (inserted x p ys)

all_put : {A : Type 0} (P : A → Type 0) (x : A) (p : ℕ) (xs : List A) → All P xs → P x → All P (put_in x p xs)
all_put P x zero xs all h = All-cons P x xs h all
all_put P x (suc p) [] all h = All-cons P x [] h all
all_put P x (suc p) (y ∷ ys) all h = All-cons P y (put_in x p ys) (All-head P y ys all) (all_put P x p ys (All-tail P y ys all) h)

pairs_put : {A : Type 0} (P : A → A → Type 0) (x : A) (p : ℕ) (xs : List A) → AllPairs P xs → AllWithin (λ y. P y x) xs 0 p → AllWithin (λ y. P x y) xs p (length xs) → AllPairs P (put_in x p xs)
pairs_put P x zero xs pairs before after = AllPairs-cons P x xs (λ k d l. after k d (omega arith) l) pairs
pairs_put P x (suc p) [] pairs before after = λ i j d lt l. absurd (omega arith)
pairs_put P x (suc p) (y ∷ ys) pairs before after =
    AllPairs-cons P y (put_in x p ys)
    (all_put (P y) x p ys (λ k d l. pairs 0 (suc k) d (omega arith) (omega arith)) (before 0 y (omega arith) (omega arith)))
    (pairs_put P x p ys (λ i j d lt l. pairs (suc i) (suc j) d (omega arith) (omega arith)) (λ k d z l. before (suc k) d (omega arith) (omega arith)) (λ k d z l. after (suc k) d (omega arith) (omega arith)))

find_put_other : {A : Type 0} (t : A → Bool) (x : A) (p : ℕ) (xs : List A) → t x ≡ false → find t (put_in x p xs) ≡ find t xs
find_put_other t x zero xs e = rw e refl
find_put_other t x (suc p) [] e = rw e refl
find_put_other t x (suc p) (y ∷ ys) e = ap (λ o. cond (t y) (Some y) o) (find_put_other t x p ys e)

find_put : {A : Type 0} (t : A → Bool) (x : A) (p : ℕ) (xs : List A) → t x ≡ true → All (λ y. t y ≡ false) xs → find t (put_in x p xs) ≡ Some x
find_put t x zero xs e none = rw e refl
find_put t x (suc p) [] e none = rw e refl
find_put t x (suc p) (y ∷ ys) e none = rw (none 0 y (omega arith)) (find_put t x p ys e (λ k d l. none (suc k) d (omega arith)))

-- the first place in a list with one more

abbrev or_else : Option ℕ → Option ℕ → Option ℕ
or_else None other = other
or_else (Some n) other = Some n

behind : (b : Bool) (o other : Option ℕ) → cond b (Some 0) (option_map (λ k. suc k) (or_else o other)) ≡ or_else (cond b (Some 0) (option_map (λ k. suc k) o)) (option_map (λ k. suc k) other)
behind true o other = refl
behind false None other = refl
behind false (Some k) other = refl

moves_up : (b : Bool) (n : ℕ) → option_map (λ k. suc k) (if b then Some n else None) ≡ (if b then Some (suc n) else None)
moves_up true n = refl
moves_up false n = refl

place_behind : {A : Type 0} (test : A → Bool) (xs : List A) (x : A) → first_place test (xs ++ x ∷ []) ≡ or_else (first_place test xs) (if test x then Some (length xs) else None)
place_behind test [] x = refl
place_behind test (y ∷ ys) x =
    ap (λ o. cond (test y) (Some 0) (option_map (λ k. suc k) o)) (place_behind test ys x)
    ∙ (behind (test y) (first_place test ys) (if test x then Some (length ys) else None)
    ∙ ap (or_else (first_place test (y ∷ ys))) (moves_up (test x) (length ys)))

get_kept : {A : Type 0} (xs ys : List A) (i : ℕ) → i < length xs → slice_get (xs ++ ys) i ≡ slice_get xs i
get_kept [] ys i l = absurd (omega arith)
get_kept (x ∷ xs) ys zero l = refl
get_kept (x ∷ xs) ys (suc i) l = get_kept xs ys i (omega arith)

get_end : {A : Type 0} (xs : List A) (x : A) → slice_get (xs ++ x ∷ []) (length xs) ≡ Some x
get_end [] x = refl
get_end (y ∷ ys) x = get_end ys x

or_none : (o : Option ℕ) → or_else o None ≡ o
or_none None = refl
or_none (Some n) = refl

longer : {A : Type 0} (xs : List A) (x : A) → length (xs ++ x ∷ []) ≡ suc (length xs)
longer [] x = refl
longer (y ∷ ys) x = ap suc (longer ys x)

or_find : (t : ℕ → Bool) (xs : List ℕ) (p d : ℕ) (other : Option ℕ) → p < length xs → t (get_or xs p d) ≡ true → or_else (find t xs) other ≡ find t xs
or_find t [] p d other l e = absurd (omega arith)
or_find t (x ∷ xs) p d other l e = by (t x) refl p l e (or_find t xs)
  where
    by : (b : Bool) → t x ≡ b → (n : ℕ) → n < suc (length xs) → t (get_or (x ∷ xs) n d) ≡ true
        → ((m c : ℕ) (o : Option ℕ) → m < length xs → t (get_or xs m c) ≡ true → or_else (find t xs) o ≡ find t xs)
        → or_else (cond b (Some x) (find t xs)) other ≡ cond b (Some x) (find t xs)
    by true h n m e rest = refl
    by false h zero m e rest = absurd (true≢false (sym e ∙ h))
    by false h (suc n) m e rest = rest n d other (omega arith) e

module _ {K : Type 0} (R : K → K → Ordering) (o : IsTotalOrder R) where
  less_not_equal : (r : Ordering) → is_lt r ≡ true → is_eq r ≡ false
  less_not_equal Less e = refl
  less_not_equal Equal e = absurd cc
  less_not_equal Greater e = refl

  lower : (r : Ordering) → is_lt r ≡ true → r ≡ Less
  lower Less e = refl
  lower Equal e = absurd cc
  lower Greater e = absurd cc

  level : (r : Ordering) → is_eq r ≡ true → r ≡ Equal
  level Less e = absurd cc
  level Equal e = refl
  level Greater e = absurd cc

  chain : (x y z : K) → is_lt (R x y) ≡ true → is_lt (R y z) ≡ true → is_lt (R x z) ≡ true
  chain x y z e f = ap is_lt (o.trans x y z (lower (R x y) e) (lower (R y z) f))

  -- what is neither below nor equal is above
  above : (x k : K) → is_lt (R x k) ≡ false → is_eq (R x k) ≡ false → is_lt (R k x) ≡ true
  above x k e f = ap is_lt (o.antisymm k x) ∙ by (R x k) e f
    where
      by : (r : Ordering) → is_lt r ≡ false → is_eq r ≡ false → is_lt (ordering_reverse r) ≡ true
      by Less e f = absurd cc
      by Equal e f = absurd cc
      by Greater e f = refl

  above_not_equal : (x k : K) → is_lt (R k x) ≡ true → is_eq (R x k) ≡ false
  above_not_equal x k e = ap is_eq (o.antisymm x k) ∙ by (R k x) e
    where
      by : (r : Ordering) → is_lt r ≡ true → is_eq (ordering_reverse r) ≡ false
      by Less e = refl
      by Equal e = absurd cc
      by Greater e = absurd cc

  abbrev Parts : K → List ℕ → List K → ℕ → Type 0
  Parts k ix ks p = IsPartitionPoint (λ i. below R k ks i ≡ true) (λ i. below R k ks i ≡ false) ix p

  -- the same for keys that may be there

  below_ties : (k : K) (a : Option K) → passes (λ x. is_lt (R x k)) a ≡ true → passes (λ x. is_eq (R x k)) a ≡ false
  below_ties k None e = refl
  below_ties k (Some x) e = less_not_equal (R x k) e

  comes_below : (k : K) (a b : Option K) → passes (λ y. passes (λ x. is_lt (R x y)) a) b ≡ true → passes (λ x. is_lt (R x k)) b ≡ true → passes (λ x. is_lt (R x k)) a ≡ true
  comes_below k a None e f = absurd cc
  comes_below k None (Some y) e f = absurd cc
  comes_below k (Some x) (Some y) e f = chain x y k e f

  past_ties : (k : K) (a b : Option K) → passes (λ x. is_lt (R x k)) a ≡ false → passes (λ x. is_eq (R x k)) a ≡ false → passes (λ y. passes (λ x. is_lt (R x y)) a) b ≡ true → passes (λ x. is_eq (R x k)) b ≡ false
  past_ties k a None e f h = refl
  past_ties k None (Some y) e f h = absurd cc
  past_ties k (Some x) (Some y) e f h = above_not_equal y k (chain k x y (above x k e f) h)

  pub partitioned : (k : K) (ix : List ℕ) (ks : List K) → IsFiled R ix ks → IsPartitionedBy (λ i. below R k ks i) ix
  unfolding IsFiled
  partitioned k ix ks filed i j d le l e = by (nat_eq i j) refl
    where
      by : (b : Bool) → nat_eq i j ≡ b → below R k ks (get_or ix i d) ≡ true
      by true same = subst (λ n. below R k ks (get_or ix n d) ≡ true) (sym (eqb-true i j same)) e
      by false other = comes_below k (slice_get ks (get_or ix i d)) (slice_get ks (get_or ix j d)) (filed.1 i j d (omega (arith, eqb-false i j other)) l) e

  -- what is found at the place that halving gives
  pub found : (k : K) (ix : List ℕ) (ks : List K) (p n : ℕ) → IsFiled R ix ks → Parts k ix ks p → p < length ix → n ≡ get_or ix p n → ties R k ks n ≡ true → first_place (λ x. is_eq (R x k)) ks ≡ Some n
  unfolding IsFiled
  found k ix ks p n filed parts l here e =
      sym (filed.2 k)
      ∙ find_at (ties R k ks) ix p n (λ i d z b. below_ties k (slice_get ks (get_or ix i d)) (parts.0 i d z b)) l (subst (λ m. ties R k ks m ≡ true) here e)
      ∙ ap (λ m. Some m) (sym here)

  -- nobody else
  none_tied : (k : K) (ix : List ℕ) (ks : List K) (p : ℕ) → IsFiled R ix ks → Parts k ix ks p → (p < length ix → HoldsAt (λ i. ties R k ks i ≡ false) ix p) → All (λ i. ties R k ks i ≡ false) ix
  unfolding IsFiled
  none_tied k ix ks p filed parts other i d l = by (nat_lt i p) refl (nat_eq i p) refl
    where
      by : (b : Bool) → nat_lt i p ≡ b → (c : Bool) → nat_eq i p ≡ c → ties R k ks (get_or ix i d) ≡ false
      by true less c e = below_ties k (slice_get ks (get_or ix i d)) (parts.0 i d (omega arith) (ltb-true i p less))
      by false more true same = subst (λ n. ties R k ks (get_or ix n d) ≡ false) (sym (eqb-true i p same)) (other (omega (arith, eqb-true i p same)) d)
      by false more false differ =
          let far : p < i = omega (arith, ltb-false i p more, eqb-false i p differ) in
          past_ties k (slice_get ks (get_or ix p d)) (slice_get ks (get_or ix i d)) (parts.1 p d (omega arith) (omega arith)) (other (omega arith) d) (filed.1 p i d far l)

  pub absent : (k : K) (ix : List ℕ) (ks : List K) (p : ℕ) → IsFiled R ix ks → Parts k ix ks p → (p < length ix → HoldsAt (λ i. ties R k ks i ≡ false) ix p) → first_place (λ x. is_eq (R x k)) ks ≡ None
  unfolding IsFiled
  absent k ix ks p filed parts other = sym (filed.2 k) ∙ find_none (ties R k ks) ix (none_tied k ix ks p filed parts other)

  -- a key that nobody ties with is filed where halving ends

  tie_back : (x k q : K) → is_eq (R x q) ≡ true → is_eq (R k q) ≡ true → is_eq (R x k) ≡ true
  tie_back x k q e f = ap is_eq (o.congr x q k (level (R x q) e) ∙ tied_back o k q (level (R k q) f))

  tie_both : (k q : K) (a : Option K) → is_eq (R k q) ≡ true → passes (λ x. is_eq (R x k)) a ≡ false → passes (λ x. is_eq (R x q)) a ≡ false
  tie_both k q None f e = refl
  tie_both k q (Some x) f e = by (is_eq (R x q)) refl
    where
      by : (b : Bool) → is_eq (R x q) ≡ b → is_eq (R x q) ≡ false
      by true h = absurd (true≢false (sym (tie_back x k q h f) ∙ e))
      by false h = h

  comes_before : (k : K) (a b : Option K) → b ≡ Some k → passes (λ x. is_lt (R x k)) a ≡ true → passes (λ y. passes (λ x. is_lt (R x y)) a) b ≡ true
  comes_before k a b here e = subst (λ c. passes (λ y. passes (λ x. is_lt (R x y)) a) c ≡ true) (sym here) e

  comes_after : (k y : K) (a b : Option K) → a ≡ Some k → b ≡ Some y → passes (λ x. is_lt (R x k)) b ≡ false → passes (λ x. is_eq (R x k)) b ≡ false → passes (λ z. passes (λ x. is_lt (R x z)) a) b ≡ true
  comes_after k y a b here there e f =
      subst (λ c. passes (λ z. passes (λ x. is_lt (R x z)) c) b ≡ true) (sym here)
      (subst (λ c. passes (λ z. is_lt (R k z)) c ≡ true) (sym there) (above y k (subst (λ c. passes (λ x. is_lt (R x k)) c ≡ false) there e) (subst (λ c. passes (λ x. is_eq (R x k)) c ≡ false) there f)))

  kept : (test : K → Bool) (ks : List K) (k : K) (i : ℕ) → i < length ks → passes test (slice_get (ks ++ k ∷ []) i) ≡ passes test (slice_get ks i)
  kept test ks k i l = ap (passes test) (get_kept ks (k ∷ []) i l)

  comes_kept : (ks : List K) (k : K) (i j : ℕ) → i < length ks → j < length ks → comes R (ks ++ k ∷ []) i j ≡ comes R ks i j
  comes_kept ks k i j l m =
      ap (λ a. passes (λ y. passes (λ x. is_lt (R x y)) a) (slice_get (ks ++ k ∷ []) j)) (get_kept ks (k ∷ []) i l)
      ∙ ap (λ b. passes (λ y. passes (λ x. is_lt (R x y)) (slice_get ks i)) b) (get_kept ks (k ∷ []) j m)

  pub filed_insert : (k : K) (ix : List ℕ) (ks : List K) (p : ℕ) → IsFiled R ix ks → p ≤ length ix → Parts k ix ks p → (p < length ix → HoldsAt (λ i. ties R k ks i ≡ false) ix p)
      → IsFiled R (insert ix p (length ks)) (ks ++ k ∷ [])
  unfolding IsFiled
  filed_insert k ix ks p filed bound parts other = subst R′ (sym (inserted (length ks) p ix)) (within, sorted, finds)
    where
      R′ : List ℕ → Type 0
      R′ jx = IsFiled R jx (ks ++ k ∷ [])

      none : All (λ i. ties R k ks i ≡ false) ix
      none = none_tied k ix ks p filed parts other

      within : All (λ i. i < length (ks ++ k ∷ [])) (put_in (length ks) p ix)
      within = all_put (λ i. i < length (ks ++ k ∷ [])) (length ks) p ix (λ i d l. omega (arith, longer ks k, filed.0 i d l)) (omega (arith, longer ks k))

      sorted : AllPairs (λ i j. comes R (ks ++ k ∷ []) i j ≡ true) (put_in (length ks) p ix)
      sorted = pairs_put (λ i j. comes R (ks ++ k ∷ []) i j ≡ true) (length ks) p ix
          (λ i j d lt l. comes_kept ks k _ _ (filed.0 i d (omega arith)) (filed.0 j d l) ∙ filed.1 i j d lt l)
          (λ i d z b. comes_before k _ _ (get_end ks k) (kept (λ x. is_lt (R x k)) ks k _ (filed.0 i d (omega arith)) ∙ parts.0 i d z b))
          (λ i d z b. comes_after k (get_or ks (get_or ix i d) k) _ _ (get_end ks k) (get_kept ks (k ∷ []) _ (filed.0 i d b) ∙ slice_get-get_or ks (get_or ix i d) k (filed.0 i d b))
          (kept (λ x. is_lt (R x k)) ks k _ (filed.0 i d b) ∙ parts.1 i d z b) (kept (λ x. is_eq (R x k)) ks k _ (filed.0 i d b) ∙ none i d b))

      finds : (q : K) → find (ties R q (ks ++ k ∷ [])) (put_in (length ks) p ix) ≡ first_place (λ x. is_eq (R x q)) (ks ++ k ∷ [])
      finds q = by (is_eq (R k q)) refl ∙ sym (place_behind (λ x. is_eq (R x q)) ks k)
        where
          at_end : ties R q (ks ++ k ∷ []) (length ks) ≡ is_eq (R k q)
          at_end = ap (passes (λ x. is_eq (R x q))) (get_end ks k)

          by : (b : Bool) → is_eq (R k q) ≡ b → find (ties R q (ks ++ k ∷ [])) (put_in (length ks) p ix) ≡ or_else (first_place (λ x. is_eq (R x q)) ks) (if is_eq (R k q) then Some (length ks) else None)
          by true e =
              let free : All (λ i. ties R q ks i ≡ false) ix = λ i d l. tie_both k q (slice_get ks (get_or ix i d)) e (none i d l) in
              find_put (ties R q (ks ++ k ∷ [])) (length ks) p ix (at_end ∙ e) (λ i d l. kept (λ x. is_eq (R x q)) ks k _ (filed.0 i d l) ∙ free i d l)
              ∙ sym (ap (λ o. or_else o (if is_eq (R k q) then Some (length ks) else None)) (sym (filed.2 q) ∙ find_none (ties R q ks) ix free) ∙ ap (λ b. if b then Some (length ks) else None) e)
          by false e =
              find_put_other (ties R q (ks ++ k ∷ [])) (length ks) p ix (at_end ∙ e)
              ∙ find_same (ties R q (ks ++ k ∷ [])) (ties R q ks) ix (λ i d l. kept (λ x. is_eq (R x q)) ks k _ (filed.0 i d l))
              ∙ filed.2 q
              ∙ sym (ap (λ b. or_else (first_place (λ x. is_eq (R x q)) ks) (if b then Some (length ks) else None)) e ∙ or_none (first_place (λ x. is_eq (R x q)) ks))

  -- a key that one ties with has no place of its own

  tie_through : (k q : K) (a : Option K) → is_eq (R k q) ≡ true → passes (λ x. is_eq (R x k)) a ≡ true → passes (λ x. is_eq (R x q)) a ≡ true
  tie_through k q None f e = absurd cc
  tie_through k q (Some x) f e = ap is_eq (o.congr x k q (level (R x k) e)) ∙ f

  pub filed_same : (k : K) (ix : List ℕ) (ks : List K) (p n : ℕ) → IsFiled R ix ks → p < length ix → n ≡ get_or ix p n → ties R k ks n ≡ true → IsFiled R ix (ks ++ k ∷ [])
  unfolding IsFiled
  filed_same k ix ks p n filed l here tied = (
    λ i d m. omega (arith, longer ks k, filed.0 i d m),
    λ i j d lt m. comes_kept ks k _ _ (filed.0 i d (omega arith)) (filed.0 j d m) ∙ filed.1 i j d lt m,
    λ q. find_same (ties R q (ks ++ k ∷ [])) (ties R q ks) ix (λ i d m. kept (λ x. is_eq (R x q)) ks k _ (filed.0 i d m)) ∙ by q (is_eq (R k q)) refl ∙ sym (place_behind (λ x. is_eq (R x q)) ks k),
  )
    where
      by : (q : K) (b : Bool) → is_eq (R k q) ≡ b → find (ties R q ks) ix ≡ or_else (first_place (λ x. is_eq (R x q)) ks) (if is_eq (R k q) then Some (length ks) else None)
      by q true e =
          sym (or_find (ties R q ks) ix p n (if is_eq (R k q) then Some (length ks) else None) l (subst (λ m. ties R q ks m ≡ true) here (tie_through k q (slice_get ks n) e tied)))
          ∙ ap (λ o. or_else o (if is_eq (R k q) then Some (length ks) else None)) (filed.2 q)
      by q false e = filed.2 q ∙ sym (ap (λ b. or_else (first_place (λ x. is_eq (R x q)) ks) (if b then Some (length ks) else None)) e ∙ or_none (first_place (λ x. is_eq (R x q)) ks))

  pub filed_none : IsFiled R [] []
  unfolding IsFiled
  filed_none = (λ i d l. absurd (omega arith), λ i j d lt l. absurd (omega arith), λ q. refl)
