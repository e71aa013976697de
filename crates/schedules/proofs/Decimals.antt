-- Decimal texts: what is read of them, and what they begin with.
use Rattle.std.proofs.Common.{ℕ, zero, suc, ◌⊎◌, inl, inr, List, [], ◌∷◌, ◌≡◌, ◌<◌, ◌≤◌, ◌+◌, ◌^◌, length, get_or, Bool, true, false, cond, Result, Ok, Err, Option, Some, None, IfSome, sym, ◌∙◌, ap, arith, rules, refl, subst, bytes_eq}
use Rattle.std.specs.Fmt.{decimal}
use Rattle.std.specs.Result.{OkIff, result_ok}
use Rattle.std.specs.Str.{all_ascii_digits}
use Rattle.std.specs.Str.Parse.{ParsesUnsigned, digits_value}
use Rattle.std.proofs.lemmas.Slice.Eq.{bytes_eq-Decides}
use Rattle.std.proofs.lemmas.Str.Parse.{IsNumeralModel, numerals_by_value, parse_plain}
use Rattle.std.proofs.lemmas.Fmt.{decimal-digits_value, decimal_digit, decimal_nonempty, first_decimal, parse-decimal, digits_value-decimal}
use Rattle.schedules.specs.Values.{decimal_of}

abbrev pub are_digits : List ℕ → Type 0
are_digits ds = all_ascii_digits ds ≡ true

pub own : IsNumeralModel are_digits (digits_value 10)
own = numerals_by_value are_digits (search rules)

pub spelled : (bs : List ℕ) (n : ℕ) → decimal_of bs ≡ Some n → decimal n ≡ bs
spelled bs n e = by_case (bytes_eq (decimal (digits_value 10 bs)) bs) refl e
  where
    by_case : (b : Bool) → bytes_eq (decimal (digits_value 10 bs)) bs ≡ b → cond b (Some (digits_value 10 bs)) None ≡ Some n → decimal n ≡ bs
    by_case true p e =
        let here : digits_value 10 bs ≡ n = cc in
        ap decimal (sym here) ∙ (bytes_eq-Decides (decimal (digits_value 10 bs)) bs).0 p
    by_case false p e = absurd cc

pub valued : (bs : List ℕ) → decimal (digits_value 10 bs) ≡ bs → decimal_of bs ≡ Some (digits_value 10 bs)
valued bs e = rw ((bytes_eq-Decides (decimal (digits_value 10 bs)) bs).1 e) refl

pub read_back : (bs : List ℕ) (n : ℕ) → n < 2 ^ 64 → decimal n ≡ bs → digits_value 10 bs ≡ n
read_back bs n small e = subst (λ x. digits_value 10 x ≡ n) e (digits_value-decimal own n small)

-- zero is written as one digit that is `0`
zero_is : (bs : List ℕ) (n : ℕ) → n ≡ 0 → decimal n ≡ bs → 1 < length bs → ⊥
zero_is bs n e d long =
    let whole : (48 + 0) ∷ [] ≡ bs = sym (decimal_digit 0 (omega arith)) ∙ (ap decimal (sym e) ∙ d) in
    let short : 1 ≡ length bs = ap length whole in
    omega arith

pub some_digit : (bs : List ℕ) (n : ℕ) → n < 2 ^ 64 → decimal_of bs ≡ Some n → 0 < length bs
some_digit bs n small e = subst (λ x. 0 < length x) (spelled bs n e) (decimal_nonempty n (omega arith))

pub no_sign : (bs : List ℕ) (n : ℕ) → n < 2 ^ 64 → decimal_of bs ≡ Some n → get_or bs 0 0 ≡ 43 → ⊥
no_sign bs n small e first = by_case n refl
  where
    begins : 0 < n → 48 < get_or bs 0 0
    begins some = subst (λ x. 48 < get_or x 0 0) (spelled bs n e) (first_decimal n some (omega arith))

    by_case : (m : ℕ) → n ≡ m → ⊥
    by_case zero z =
        let whole : (48 + 0) ∷ [] ≡ bs = sym (decimal_digit 0 (omega arith)) ∙ (ap decimal (sym z) ∙ spelled bs n e) in
        let here : get_or bs 0 0 ≡ 48 = subst (λ x. get_or x 0 0 ≡ 48) whole refl in
        omega arith
    by_case (suc m) s = let k = begins (omega (arith, s)) in omega arith

pub no_zero : (bs : List ℕ) (n : ℕ) → n < 2 ^ 64 → decimal_of bs ≡ Some n → get_or bs 0 0 ≡ 48 → 1 < length bs → ⊥
no_zero bs n small e first long = by_case n refl
  where
    by_case : (m : ℕ) → n ≡ m → ⊥
    by_case zero z = zero_is bs n z (spelled bs n e) long
    by_case (suc m) s =
        let k = subst (λ x. 48 < get_or x 0 0) (spelled bs n e) (first_decimal n (omega (arith, s)) (omega arith)) in
        omega arith

pub parses : {E : Type 0} (bs : List ℕ) (n : ℕ) (r : Result ℕ E) → ParsesUnsigned 64 10 bs r
    → n < 2 ^ 64 → decimal_of bs ≡ Some n → r ≡ Ok n
parses bs n r h small e = parse-decimal 64 n bs r small (omega arith) (sym (spelled bs n e)) h

plain : {E : Type 0} (bs : List ℕ) (r : Result ℕ E)
    → OkIff r (are_digits bs × (0 < length bs) × (digits_value 10 bs < 2 ^ 64)) (digits_value 10 bs)
    → (get_or bs 0 0 ≡ 48 → length bs ≡ 1) → IfSome (result_ok r) (λ n. decimal_of bs ≡ Some n)
plain bs (Ok x) (((digits, some, small), value)) lead =
    subst (λ v. decimal_of bs ≡ Some v) (sym value)
    (valued bs (decimal-digits_value own bs digits some lead (omega arith)))
plain bs (Err e) h lead = tt

pub parsed : {E : Type 0} (bs : List ℕ) (o : Option ℕ) (r : Result ℕ E) → ParsesUnsigned 64 10 bs r
    → (get_or bs 0 0 ≡ 43 → ⊥) → (get_or bs 0 0 ≡ 48 → length bs ≡ 1) → o ≡ result_ok r
    → IfSome o (λ n. decimal_of bs ≡ Some n)
parsed bs o r h plus lead same =
    subst (λ x. IfSome x (λ n. decimal_of bs ≡ Some n)) (sym same) (plain bs r (parse_plain own 64 bs r h plus) lead)

pub one_zero : (bs : List ℕ) (b : ℕ) → b ≡ get_or bs 0 0 → (b ≡ 48 × length bs ≤ 1) ⊎ (b ≡ 48 → ⊥) → get_or bs 0 0 ≡ 48 → length bs ≡ 1
one_zero [] b e h z = absurd (omega (arith, z))
one_zero (x ∷ []) b e h z = refl
one_zero (x ∷ y ∷ more) b e (inl (same, short)) z = absurd (omega (arith, short))
one_zero (x ∷ y ∷ more) b e (inr never) z = absurd (never (e ∙ z))
