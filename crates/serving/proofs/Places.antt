-- An activity by the number of the line that made it.
use Rattle.std.proofs.Common.{ℕ, zero, suc, List, [], ◌∷◌, ◌≡◌, ◌+◌, ◌-◌, length, Option, Some, None, Bor, false, ap, sym, ◌∙◌, arith, refl}
use Rattle.std.specs.Prelude.{nat_eq, option_copied, slice_get}
use Rattle.std.specs.Slice.{IsGetResult}
use Rattle.std.proofs.lemmas.Bool.{ne_eqb}
use Rattle.std.proofs.lemmas.Option.{slice_get_read, slice_get_past}
use Rattle.at_base.specs.Numbers.{Numbers}
use Rattle.at_model.specs.World.{nth}
use Rattle.serving.specs.Requests.{activity_at, joined}

-- what a look-up gave

got : {A : Type 0} (xs : List A) (i : ℕ) (r : Option (Bor A)) → IsGetResult xs i i r → option_copied r ≡ slice_get xs i
got xs i None (a, b, c, d, e) = sym (slice_get_past xs i d)
got xs i (Some x) (a, b, c, d, e) = sym (slice_get_read xs (length xs) i x.now refl d.0 b)

nth_none : {A : Type 0} (xs : List A) → nth 0 xs ≡ None
nth_none [] = refl
nth_none (x ∷ xs) = nth_none xs

nth_more : {A : Type 0} (i : ℕ) (x : A) (xs : List A) → nat_eq (suc i + 1) 1 ≡ false → suc i + 1 - 1 ≡ i + 1 → nth (suc i + 1) (x ∷ xs) ≡ nth (i + 1) xs
nth_more i x xs e f = rw (e, f) refl

nth_get : {A : Type 0} (i : ℕ) (xs : List A) → nth (i + 1) xs ≡ slice_get xs i
nth_get i [] = refl
nth_get zero (x ∷ xs) = refl
nth_get (suc i) (x ∷ xs) = nth_more i x xs (ne_eqb (suc i + 1) 1 (λ e. omega (arith, e))) (omega arith) ∙ nth_get i xs

nth_back : {A : Type 0} (n : ℕ) (xs : List A) → (n ≡ 0 → ⊥) → nth n xs ≡ slice_get xs (n - 1)
nth_back zero xs e = absurd (e refl)
nth_back (suc n) xs e = let same : suc n ≡ suc n - 1 + 1 = omega arith in ap (λ k. nth k xs) same ∙ nth_get (suc n - 1) xs

pub no_activity : (made : List (Option Numbers)) → activity_at 0 made ≡ None
no_activity made = ap joined (nth_none made)

pub activity_got : (n : ℕ) (made : List (Option Numbers)) (r : Option (Bor (Option Numbers))) → (n ≡ 0 → ⊥) → IsGetResult made (n - 1) (n - 1) r → joined (option_copied r) ≡ activity_at n made
activity_got n made r e h = ap joined (got made (n - 1) r h ∙ sym (nth_back n made e))
