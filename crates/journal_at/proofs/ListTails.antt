-- What is left behind a list's first items.
use Rattle.std.proofs.Common.{ℕ, List, zero, suc, [], ◌∷◌, length, ◌≡◌, refl, ◌∙◌, ap, drop, min, arith}
use Rattle.journal_at.specs.declared.read.Placed.{Placed}
use Rattle.journal_at.specs.Frames.{bodies_of}

pub none_left : (n m : ℕ) → bodies_of (drop m []) ≡ drop n []
none_left zero zero = refl
none_left zero (suc m) = refl
none_left (suc n) zero = refl
none_left (suc n) (suc m) = refl

pub dropped : (items : List Placed) (n m : ℕ) → m ≡ min n (length items) → bodies_of (drop m items) ≡ drop n (bodies_of items)
dropped [] n m e = none_left n m
dropped (item ∷ items) zero m e = ap (λ k. bodies_of (drop k (item ∷ items))) none where
  none : m ≡ 0
  none = omega (arith, e)
dropped (item ∷ items) (suc n) m e = ap (λ k. bodies_of (drop k (item ∷ items))) same ∙ dropped items n (min n (length items)) refl where
  same : m ≡ suc (min n (length items))
  same = omega (arith, e)
