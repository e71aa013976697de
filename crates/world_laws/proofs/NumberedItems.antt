-- Items by their numbers from 1.
use Rattle.std.proofs.Common.{ℕ, zero, suc, List, [], ◌∷◌, ◌≡◌, ◌+◌, ◌-◌, length, Option, Some, None, false, Bor, ap, sym, ◌∙◌, arith, refl}
use Rattle.std.specs.Prelude.{nat_eq, option_copied, slice_get, slice_set}
use Rattle.std.specs.Slice.{IsGetResult}
use Rattle.std.proofs.lemmas.Bool.{ne_eqb}
use Rattle.std.proofs.lemmas.Option.{slice_get_read, slice_get_past}
use Rattle.at_model.specs.World.{nth, put_nth}

pub nth_none : {A : Type 0} (xs : List A) → nth 0 xs ≡ None
nth_none [] = refl
nth_none (x ∷ xs) = nth_none xs

nth_more : {A : Type 0} (i : ℕ) (x : A) (xs : List A) → nat_eq (suc i + 1) 1 ≡ false → suc i + 1 - 1 ≡ i + 1
    → nth (suc i + 1) (x ∷ xs) ≡ nth (i + 1) xs
nth_more i x xs e f = rw (e, f) refl

nth_get : {A : Type 0} (i : ℕ) (xs : List A) → nth (i + 1) xs ≡ slice_get xs i
nth_get i [] = refl
nth_get zero (x ∷ xs) = refl
nth_get (suc i) (x ∷ xs) =
    nth_more i x xs (ne_eqb (suc i + 1) 1 (λ e. omega (arith, e))) (omega arith) ∙ nth_get i xs

got : {A : Type 0} (xs : List A) (i : ℕ) (r : Option (Bor A)) → IsGetResult xs i i r → option_copied r ≡ slice_get xs i
got xs i None (a, b, c, d, e) = sym (slice_get_past xs i d)
got xs i (Some x) (a, b, c, d, e) = sym (slice_get_read xs (length xs) i x.now refl d.0 b)

pub nth_back : {A : Type 0} (n : ℕ) (xs : List A) → (n ≡ 0 → ⊥) → nth n xs ≡ slice_get xs (n - 1)
nth_back zero xs e = absurd (e refl)
nth_back (suc n) xs e =
    let same : suc n ≡ suc n - 1 + 1 = omega arith in
    ap (λ k. nth k xs) same ∙ nth_get (suc n - 1) xs

pub found : {A : Type 0} (n : ℕ) (xs : List A) (r : Option (Bor A)) → (n ≡ 0 → ⊥) → IsGetResult xs (n - 1) (n - 1) r
    → option_copied r ≡ nth n xs
found n xs r e h = got xs (n - 1) r h ∙ sym (nth_back n xs e)

pub put_none : {A : Type 0} (y : A) (xs : List A) → put_nth 0 y xs ≡ xs
put_none y [] = refl
put_none y (x ∷ xs) = ap (λ zs. x ∷ zs) (put_none y xs)

put_more : {A : Type 0} (i : ℕ) (y x : A) (xs : List A) → nat_eq (suc i + 1) 1 ≡ false → suc i + 1 - 1 ≡ i + 1
    → put_nth (suc i + 1) y (x ∷ xs) ≡ x ∷ put_nth (i + 1) y xs
put_more i y x xs e f = rw (e, f) refl

put_set : {A : Type 0} (i : ℕ) (y : A) (xs : List A) → put_nth (i + 1) y xs ≡ slice_set xs i y
put_set i y [] = refl
put_set zero y (x ∷ xs) = refl
put_set (suc i) y (x ∷ xs) =
    put_more i y x xs (ne_eqb (suc i + 1) 1 (λ e. omega (arith, e))) (omega arith) ∙ ap (λ zs. x ∷ zs) (put_set i y xs)

pub put_back : {A : Type 0} (n : ℕ) (y : A) (xs : List A) → (n ≡ 0 → ⊥) → put_nth n y xs ≡ slice_set xs (n - 1) y
put_back zero y xs e = absurd (e refl)
put_back (suc n) y xs e =
    let same : suc n ≡ suc n - 1 + 1 = omega arith in
    ap (λ k. put_nth k y xs) same ∙ put_set (suc n - 1) y xs
