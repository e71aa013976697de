-- Lists by rising id, of which some may have the same.
use Rattle.std.specs.Prelude.{ℕ, List, [], ◌∷◌, Bool, true, false, nat_eq, nat_lt, ◌&&◌, ◌||◌, if◌then◌else◌, ◌≡◌, ◌≤◌, ◌<◌, ◌⊎◌, refl}
use Rattle.std.specs.List.{AllByRecursion}
use Rattle.std.proofs.Common.{inl, inr, sym, ap, arith, ◌∙◌, eq-eqb}
use Rattle.std.proofs.lemmas.Bool.{eqb-true, ltb-true, ltb-false, true≢false}
use Rattle.at_base.specs.Numbers.{Numbers}
use Rattle.at_model.specs.Recovery.{is_before, insert_by, in_order}
use Rattle.model_laws.proofs.DecisionLaws.{all_more}
use Rattle.model_laws.proofs.DrawnIds.{all_insert}
use Rattle.model_laws.proofs.Order.{before_further}

-- no item comes before one that stands in front of it
abbrev pub IsNoLess : {A : Type 0} → (A → Numbers) → A → A → Type 0
IsNoLess key x y = is_before (key y) (key x) ≡ false

abbrev pub AreSorted : {A : Type 0} → (A → Numbers) → List A → Type 0
AreSorted key [] = Unit {0}
AreSorted key (x ∷ xs) = AllByRecursion (IsNoLess key x) xs × AreSorted key xs

-- what an order says of the numbers
abbrev IsBehind : Numbers → Numbers → Type 0
IsBehind a b = (b.incarnation < a.incarnation) ⊎ ((a.incarnation ≡ b.incarnation) × (b.counter ≤ a.counter))

behind_by : (a b : Numbers) (p q r : Bool) → nat_lt a.incarnation b.incarnation ≡ p → nat_lt b.incarnation a.incarnation ≡ q → nat_lt a.counter b.counter ≡ r
    → (p || (nat_eq a.incarnation b.incarnation && r)) ≡ false → IsBehind a b
behind_by a b true q r e f g h = absurd (true≢false h)
behind_by a b false true r e f g h = inl (ltb-true b.incarnation a.incarnation f)
behind_by a b false false true e f g h = absurd (true≢false (ap (λ t. t && true) (sym same) ∙ h))
  where
    equal : (m n : ℕ) → m ≤ n → n ≤ m → m ≡ n
    equal m n h k = omega (arith, h, k)

    same : nat_eq a.incarnation b.incarnation ≡ true
    same = eq-eqb a.incarnation b.incarnation (equal _ _ (ltb-false b.incarnation a.incarnation f) (ltb-false a.incarnation b.incarnation e))
behind_by a b false false false e f g h = inr (equal _ _ (ltb-false b.incarnation a.incarnation f) (ltb-false a.incarnation b.incarnation e), ltb-false a.counter b.counter g)
  where
    equal : (m n : ℕ) → m ≤ n → n ≤ m → m ≡ n
    equal m n h k = omega (arith, h, k)

behind : (a b : Numbers) → is_before a b ≡ false → IsBehind a b
behind a b h = behind_by a b (nat_lt a.incarnation b.incarnation) (nat_lt b.incarnation a.incarnation) (nat_lt a.counter b.counter) refl refl refl h

crossed : (m n : ℕ) → m < n → n ≤ m → ⊥
crossed m n h k = omega (arith, h, k)

least : (m n : ℕ) → m < n → m ≤ n
least m n h = omega (arith, h)

same_least : (m n : ℕ) → m ≡ n → n ≤ m
same_least m n h = omega (arith, h)

no_less : (a b : Numbers) → IsBehind a b → is_before a b ≡ false
no_less a b h = by_case (nat_lt a.incarnation b.incarnation) (nat_eq a.incarnation b.incarnation) (nat_lt a.counter b.counter) refl refl refl h
  where
    by_case : (p q r : Bool) → nat_lt a.incarnation b.incarnation ≡ p → nat_eq a.incarnation b.incarnation ≡ q → nat_lt a.counter b.counter ≡ r → IsBehind a b → (p || (q && r)) ≡ false
    by_case true q r e f g (inl k) = absurd (crossed _ _ (ltb-true a.incarnation b.incarnation e) (least _ _ k))
    by_case true q r e f g (inr (i, k)) = absurd (crossed _ _ (ltb-true a.incarnation b.incarnation e) (same_least _ _ i))
    by_case false false r e f g k = refl
    by_case false true false e f g k = refl
    by_case false true true e f g (inl k) = absurd (crossed _ _ k (same_least _ _ (sym (eqb-true a.incarnation b.incarnation f))))
    by_case false true true e f g (inr (i, k)) = absurd (crossed _ _ (ltb-true a.counter b.counter g) k)

behind_both : (a b c : Numbers) → IsBehind a b → IsBehind b c → IsBehind a c
behind_both a b c (inl h) (inl k) = inl (omega (arith, h, k))
behind_both a b c (inl h) (inr (e, k)) = inl (omega (arith, h, e))
behind_both a b c (inr (e, h)) (inl k) = inl (omega (arith, e, k))
behind_both a b c (inr (e, h)) (inr (f, k)) = inr (e ∙ f, omega (arith, h, k))

no_less_both : (a b c : Numbers) → is_before a b ≡ false → is_before b c ≡ false → is_before a c ≡ false
no_less_both a b c h k = no_less a c (behind_both a b c (behind a b h) (behind b c k))

not_back : (a b : Numbers) → is_before a b ≡ true → is_before b a ≡ false
not_back a b h = by_case (is_before b a) refl
  where
    self : (n : ℕ) → n ≤ n
    self n = omega arith

    by_case : (t : Bool) → is_before b a ≡ t → t ≡ false
    by_case false e = refl
    by_case true e = absurd (true≢false (sym (before_further a b a h e) ∙ no_less a a (inr (refl, self a.counter))))

-- insertion sorts
sorted_if : {A : Type 0} (key : A → Numbers) (x y : A) (xs : List A) (b : Bool) → is_before (key y) (key x) ≡ b
    → AreSorted key (y ∷ xs) → AreSorted key (insert_by key x xs) → AreSorted key (if b then y ∷ insert_by key x xs else x ∷ (y ∷ xs))
sorted_if key x y xs true e (h, k) rest = (all_insert (IsNoLess key y) key x xs (not_back (key y) (key x) e) h, rest)
sorted_if key x y xs false e (h, k) rest = ((e, all_more (IsNoLess key y) (IsNoLess key x) xs (λ z f. no_less_both (key z) (key y) (key x) f e) h), (h, k))

sorted_insert : {A : Type 0} (key : A → Numbers) (x : A) (xs : List A) → AreSorted key xs → AreSorted key (insert_by key x xs)
sorted_insert key x [] h = (tt, tt)
sorted_insert key x (y ∷ ys) (h, k) = sorted_if key x y ys (is_before (key y) (key x)) refl (h, k) (sorted_insert key x ys k)

pub in_order_sorted : {A : Type 0} (key : A → Numbers) (xs : List A) → AreSorted key (in_order key xs)
in_order_sorted key [] = tt
in_order_sorted key (x ∷ xs) = sorted_insert key x (in_order key xs) (in_order_sorted key xs)

-- and leaves what is sorted
first_stays : {A : Type 0} (key : A → Numbers) (x : A) (xs : List A) → AllByRecursion (IsNoLess key x) xs → insert_by key x xs ≡ x ∷ xs
first_stays key x [] h = refl
first_stays key x (y ∷ ys) (h, k) = ap (λ b. if b then y ∷ insert_by key x ys else x ∷ (y ∷ ys)) h

pub stays_in_order : {A : Type 0} (key : A → Numbers) (xs : List A) → AreSorted key xs → in_order key xs ≡ xs
stays_in_order key [] h = refl
stays_in_order key (x ∷ xs) (h, k) = ap (insert_by key x) (stays_in_order key xs k) ∙ first_stays key x xs h
