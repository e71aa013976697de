-- Items by their numbers.
use Rattle.std.specs.Prelude.{ℕ, List, [], ◌∷◌, Some, Bool, true, false, nat_eq, ◌-◌, if◌then◌else◌, ◌≡◌, refl}
use Rattle.std.proofs.Common.{sym, ap, arith, ◌∙◌}
use Rattle.std.proofs.lemmas.Bool.{eqb-true, eqb-false}
use Rattle.at_model.specs.World.{nth, put_nth}

less_one : (m n : ℕ) → (m ≡ n → ⊥) → (m ≡ 1 → ⊥) → (n ≡ 1 → ⊥) → m - 1 ≡ n - 1 → ⊥
less_one m n h i j e = omega (arith, h, i, j, e)

pub nth_other : {A : Type 0} (xs : List A) (m n : ℕ) (y : A) → (m ≡ n → ⊥) → nth m (put_nth n y xs) ≡ nth m xs
nth_other [] m n y h = refl
nth_other (x ∷ xs) m n y h = at (λ k l i. nth_other xs k l y i) (nat_eq n 1) (nat_eq m 1) refl refl
  where
    at : ((k l : ℕ) → (k ≡ l → ⊥) → nth k (put_nth l y xs) ≡ nth k xs) → (a b : Bool) → nat_eq n 1 ≡ a → nat_eq m 1 ≡ b
        → nth m (if a then y ∷ xs else x ∷ put_nth (n - 1) y xs) ≡ (if b then Some x else nth (m - 1) xs)
    at rest true true e f = absurd (h (eqb-true m 1 f ∙ sym (eqb-true n 1 e)))
    at rest true false e f = ap (λ t. if t then Some y else nth (m - 1) xs) f
    at rest false true e f = ap (λ t. if t then Some x else nth (m - 1) (put_nth (n - 1) y xs)) f
    at rest false false e f =
        ap (λ t. if t then Some x else nth (m - 1) (put_nth (n - 1) y xs)) f ∙ rest (m - 1) (n - 1) (less_one m n h (eqb-false m 1 f) (eqb-false n 1 e))

pub nth_this : {A : Type 0} (xs : List A) (n : ℕ) (x y : A) → nth n xs ≡ Some x → nth n (put_nth n y xs) ≡ Some y
nth_this [] n x y h = absurd cc
nth_this (z ∷ zs) n x y h = at (λ i. nth_this zs (n - 1) x y i) (nat_eq n 1) refl h
  where
    at : (nth (n - 1) zs ≡ Some x → nth (n - 1) (put_nth (n - 1) y zs) ≡ Some y) → (a : Bool) → nat_eq n 1 ≡ a
        → (if a then Some z else nth (n - 1) zs) ≡ Some x → nth n (if a then y ∷ zs else z ∷ put_nth (n - 1) y zs) ≡ Some y
    at rest true e h = ap (λ t. if t then Some y else nth (n - 1) zs) e
    at rest false e h = ap (λ t. if t then Some z else nth (n - 1) (put_nth (n - 1) y zs)) e ∙ rest h
