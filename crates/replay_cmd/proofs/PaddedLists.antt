-- A list with a value put past its end.
use Rattle.std.proofs.Common.{ℕ, zero, suc, List, [], ◌∷◌, ◌≡◌, ◌≤◌, length, slice_set, ap, sym, arith, refl}

past : {A : Type 0} (k : ℕ) (a : A) (xs : List A) → length xs ≤ k → slice_set xs k a ≡ xs
past k a [] h = refl
past zero a (x ∷ xs) h = absurd (omega (arith, h))
past (suc k) a (x ∷ xs) h = ap (λ ys. x ∷ ys) (past k a xs (omega (arith, h)))

pub set_past : {A : Type 0} (k : ℕ) (a : A) (xs : List A) → length xs ≤ k → xs ≡ slice_set xs k a
set_past k a xs h = sym (past k a xs h)
