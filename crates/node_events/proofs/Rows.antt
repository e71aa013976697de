-- Lists of which each item gives some items, and their fronts.
use Rattle.std.specs.Prelude.{ℕ, List, [], ◌∷◌, ◌++◌, ◌+◌, ◌≡◌, ◌<◌, ◌⊎◌, length, take, zero, suc, refl}
use Rattle.std.specs.List.{AllByRecursion}
use Rattle.std.proofs.Common.{inl, inr, sym, ap, arith, ◌∙◌}
use Rattle.std.proofs.lemmas.List.{append_assoc}

pub no_more : {A : Type 0} (xs : List A) (x : A) → [] ≡ xs ++ x ∷ [] → ⊥
no_more [] x e = absurd cc
no_more (y ∷ xs) x e = absurd cc

pub none_there : {A : Type 0} (x : A) (xs : List A) → x ∷ xs ≡ [] → ⊥
none_there x xs e = absurd cc

pub no_front : {A : Type 0} (xs ys : List A) → xs ++ ys ≡ [] → ys ≡ []
no_front [] ys e = e
no_front (x ∷ xs) ys e = absurd cc

-- what is gathered of each item is gathered of the whole
pub gathers : {A B : Type 0} (g : List A → List B) → g [] ≡ [] → ((x : A) (xs : List A) → g (x ∷ xs) ≡ g (x ∷ []) ++ g xs) → (xs ys : List A) → g (xs ++ ys) ≡ g xs ++ g ys
gathers g none each [] ys = ap (λ z. z ++ g ys) (sym none)
gathers g none each (x ∷ xs) ys =
    each x (xs ++ ys) ∙ ap (λ z. g (x ∷ []) ++ z) (gathers g none each xs ys) ∙ sym (append_assoc (g (x ∷ [])) (g xs) (g ys))
    ∙ ap (λ z. z ++ g ys) (sym (each x xs))

pub all_join : {A : Type 0} (P : A → Type 0) (xs ys : List A) → AllByRecursion P xs → AllByRecursion P ys → AllByRecursion P (xs ++ ys)
all_join P [] ys h k = k
all_join P (x ∷ xs) ys (h, more) k = (h, all_join P xs ys more k)

-- a front of a row goes into its first part, or past it
pub within_or_past : (n k : ℕ) → (k < n) ⊎ ((j : ℕ) × (k ≡ n + j))
within_or_past zero k = inr (k, omega arith)
within_or_past (suc n) zero = inl (omega arith)
within_or_past (suc n) (suc k) = by_case (within_or_past n k)
  where
    by_case : (k < n) ⊎ ((j : ℕ) × (k ≡ n + j)) → (suc k < suc n) ⊎ ((j : ℕ) × (suc k ≡ suc n + j))
    by_case (inl h) = inl (omega (arith, h))
    by_case (inr (j, e)) = inr (j, omega (arith, e))

pub take_past : {A : Type 0} (xs ys : List A) (n k : ℕ) → k ≡ length xs + n → take k (xs ++ ys) ≡ xs ++ take n ys
take_past [] ys n k e = ap (λ m. take m ys) (omega (arith, e))
take_past (x ∷ xs) ys n k e =
    ap (λ m. take m (x ∷ (xs ++ ys))) (e ∙ next) ∙ ap (λ zs. x ∷ zs) (take_past xs ys n (length xs + n) refl)
  where
    next : suc (length xs) + n ≡ suc (length xs + n)
    next = omega arith
