-- Numbers in decimal.
use Rattle.std.proofs.Common.{ℕ, List, [], ◌∷◌, ◌++◌, ◌≡◌, ◌≢◌, ◌<◌, ◌+◌, ◌-◌, ◌*◌, inl, inr, Bool, true, false, nat_eq, min, take, drop, get_or, length, refl, sym, ap, ◌∙◌, arith}
use Rattle.std.specs.Prelude.{◌&&◌}
use Rattle.std.specs.Int.{IsInRange}
use Rattle.std.specs.List.{list_all}
use Rattle.std.specs.Char.{is_ascii_digit, digit_value}
use Rattle.std.specs.Str.Parse.{digits_value, digits_value_after}
use Rattle.std.proofs.lemmas.Bool.{cases_Bool, eqb-true, eq-eqb, ne_eqb, leb-true, and_from, true≢false}
use Rattle.std.proofs.lemmas.List.{take_more, take-append-drop}
use Rattle.std.proofs.Common.{zero, suc}
use Rattle.std.proofs.lemmas.Int.Digits.{digits_value_push}
use Rattle.std.proofs.lemmas.Str.{digit_value_digit}
use Rattle.http_post.specs.Heads.{is_decimal}

abbrev AreDigits : List ℕ → Type 0
AreDigits ds = list_all is_ascii_digit ds ≡ true

both : (a b : Bool) → (a && b) ≡ true → (a ≡ true) × (b ≡ true)
both true true e = (refl, refl)
both true false e = absurd (true≢false (sym e))
both false b e = absurd (true≢false (sym e))

in_range : (c : ℕ) → is_ascii_digit c ≡ true → IsInRange 48 57 c
in_range c h = let p = both _ _ h in (leb-true _ _ p.0, leb-true _ _ p.1)

-- what a digit counts
digit_of : (c : ℕ) → is_ascii_digit c ≡ true → (digit_value c + 48 ≡ c) × (digit_value c < 10)
digit_of c h =
    let r : IsInRange 48 57 c = in_range c h in
    let e : digit_value c + 48 ≡ c = digit_value_digit c r in
    (e, omega (arith, e, r.1))

digit_at : (ds : List ℕ) (i : ℕ) → AreDigits ds → i < length ds → is_ascii_digit (get_or ds i 0) ≡ true
digit_at [] i h lt = absurd (omega (arith, lt))
digit_at (d ∷ ds) zero h lt = (both _ _ h).0
digit_at (d ∷ ds) (suc i) h lt = digit_at ds i (both _ _ h).1 (omega (arith, lt))

decimal_digits : (ds : List ℕ) → is_decimal ds ≡ true → AreDigits ds
decimal_digits [] h = absurd (true≢false (sym h))
decimal_digits (d ∷ ds) h = h

-- one digit more, with what is too much cut off
pub one_digit_more : (ds : List ℕ) (i v r : ℕ) → is_decimal ds ≡ true → i < length ds → v ≡ min (digits_value 10 (take i ds)) 65537
    → r ≡ min (10 * v + (get_or ds i 0 - 48)) 65537 → r ≡ min (digits_value 10 (take (i + 1) ds)) 65537
one_digit_more ds i v r h lt ev er =
    let d = digit_of (get_or ds i 0) (digit_at ds i (decimal_digits ds h) lt) in
    let e : digits_value 10 (take (i + 1) ds) ≡ digits_value 10 (take i ds) * 10 + digit_value (get_or ds i 0)
    = ap (digits_value 10) (take_more ds i 0 lt) ∙ digits_value_push 10 (take i ds) (get_or ds i 0) in
    omega (arith, ev, er, e, d.0)

-- digits behind digits
value_behind : (n : ℕ) (xs ys : List ℕ) → digits_value_after 10 n (xs ++ ys) ≡ digits_value_after 10 (digits_value_after 10 n xs) ys
value_behind n [] ys = refl
value_behind n (x ∷ xs) ys = value_behind (n * 10 + digit_value x) xs ys

-- as many digits of the same value are the same digits
agree_digits : (m n : ℕ) (xs ys : List ℕ) → length xs ≡ length ys → AreDigits xs → AreDigits ys
    → digits_value_after 10 m xs ≡ digits_value_after 10 n ys → (m ≡ n) × (xs ≡ ys)
agree_digits m n [] [] e h k same = (same, refl)
agree_digits m n [] (y ∷ ys) e h k same = absurd (omega (arith, e))
agree_digits m n (x ∷ xs) [] e h k same = absurd (omega (arith, e))
agree_digits m n (x ∷ xs) (y ∷ ys) e h k same =
    let inner : (m * 10 + digit_value x ≡ n * 10 + digit_value y) × (xs ≡ ys)
    = agree_digits (m * 10 + digit_value x) (n * 10 + digit_value y) xs ys (omega (arith, e)) (both _ _ h).1 (both _ _ k).1 same in
    let dx = digit_of x (both _ _ h).0 in
    let dy = digit_of y (both _ _ k).0 in
    let first : x ≡ y = omega (arith, inner.0, dx.0, dx.1, dy.0, dy.1) in
    (omega (arith, inner.0, dx.1, dy.1), λ i. first i ∷ inner.1 i)

-- zeros count nothing
zeros : (n : ℕ) (xs : List ℕ) → list_all (nat_eq 48) xs ≡ true → n ≡ 0 → digits_value_after 10 n xs ≡ 0
zeros n [] h e = e
zeros n (x ∷ xs) h e =
    let x_is : 48 ≡ x = eqb-true 48 x (both _ _ h).0 in
    zeros (n * 10 + digit_value x) xs (both _ _ h).1 (ap (λ k. n * 10 + digit_value k) (sym x_is) ∙ omega (arith, e))

-- and all else counts something
some_count : (n : ℕ) (xs : List ℕ) → AreDigits xs → digits_value_after 10 n xs ≡ 0 → (n ≡ 0) × (list_all (nat_eq 48) xs ≡ true)
some_count n [] h e = (e, refl)
some_count n (x ∷ xs) h e =
    let inner = some_count (n * 10 + digit_value x) xs (both _ _ h).1 e in
    let d = digit_of x (both _ _ h).0 in
    let x_is : 48 ≡ x = omega (arith, inner.0, d.0) in
    (omega (arith, inner.0), and_from _ _ (eq-eqb 48 x x_is) inner.1)

front_digits : (k : ℕ) (ds : List ℕ) → AreDigits ds → AreDigits (take k ds) × AreDigits (drop k ds)
front_digits zero ds h = (refl, h)
front_digits (suc k) [] h = (refl, refl)
front_digits (suc k) (d ∷ ds) h = (and_from _ _ (both _ _ h).0 (front_digits k ds (both _ _ h).1).0, (front_digits k ds (both _ _ h).1).1)

-- the longer number, taken apart
module _ (long short : List ℕ) (k : ℕ) (hl : is_decimal long ≡ true) (hs : is_decimal short ≡ true) (len : length (drop k long) ≡ length short) where
  apart : digits_value 10 long ≡ digits_value_after 10 (digits_value 10 (take k long)) (drop k long)
  apart = ap (digits_value 10) (sym (take-append-drop k long)) ∙ value_behind 0 (take k long) (drop k long)

  same_from : digits_value 10 long ≡ digits_value 10 short → (digits_value 10 (take k long) ≡ 0) × (drop k long ≡ short)
  same_from e = agree_digits (digits_value 10 (take k long)) 0 (drop k long) short len (front_digits k long (decimal_digits long hl)).1 (decimal_digits short hs) (sym apart ∙ e)

  pub other_end : drop k long ≢ short → false ≡ nat_eq (digits_value 10 long) (digits_value 10 short)
  other_end n = sym (ne_eqb _ _ (λ e. n (same_from e).1))

  pub same_end : (b : Bool) → b ≡ list_all (nat_eq 48) (take k long) → drop k long ≡ short → b ≡ nat_eq (digits_value 10 long) (digits_value 10 short)
  same_end b e same = elim (cases_Bool (list_all (nat_eq 48) (take k long))) [
    | inl t ↦ e ∙ t ∙ sym (eq-eqb _ _ (apart ∙ ap (λ n. digits_value_after 10 n (drop k long)) (zeros 0 (take k long) t refl) ∙ ap (digits_value 10) same))
    | inr f ↦ e ∙ f ∙ sym (ne_eqb _ _ (λ z. true≢false (sym (some_count 0 (take k long) (front_digits k long (decimal_digits long hl)).0 (same_from z).0).1 ∙ f)))
  ]
