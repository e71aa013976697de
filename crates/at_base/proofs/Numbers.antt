-- Numbers of 1 to 4,294,967,295 in decimal.
use Rattle.std.proofs.Common.{ℕ, List, [], ◌∷◌, ◌≡◌, ◌<◌, ◌≤◌, ◌+◌, ◌^◌, length, get_or, true, Result, Ok, Err, Option, Some, IfSome, sym, ◌∙◌, ap, arith, rules, refl, subst}
use Rattle.std.specs.Fmt.{decimal}
use Rattle.std.specs.Result.{OkIff, result_ok}
use Rattle.std.specs.Str.{all_ascii_digits}
use Rattle.std.specs.Str.Parse.{ParsesUnsigned, digits_value}
use Rattle.std.proofs.lemmas.Str.Parse.{IsNumeralModel, numerals_by_value, parse_plain}
use Rattle.std.proofs.lemmas.Fmt.{decimal-digits_value, decimal_digit, decimal_nonempty, first_decimal, parse-decimal}
use Rattle.at_base.specs.IdText.{SpellsNumber}

abbrev pub are_digits : List ℕ → Type 0
are_digits ds = all_ascii_digits ds ≡ true

pub own : IsNumeralModel are_digits (digits_value 10)
own = numerals_by_value are_digits (search rules)

-- zero is written as one digit that is `0`
zero_begins : (bs : List ℕ) (n : ℕ) → n ≡ 0 → decimal n ≡ bs → get_or bs 0 0 ≡ 48
zero_begins bs n e d =
    let whole : (48 + 0) ∷ [] ≡ bs = sym (decimal_digit 0 (omega arith)) ∙ (ap decimal (sym e) ∙ d) in
    subst (λ x. get_or x 0 0 ≡ 48) whole refl

plain : {E : Type 0} (bs : List ℕ) (n : ℕ) (r : Result ℕ E)
    → OkIff r (are_digits bs × (0 < length bs) × (digits_value 10 bs < 2 ^ 32)) (digits_value 10 bs)
    → (get_or bs 0 0 ≡ 48 → ⊥) → r ≡ Ok n → SpellsNumber bs n
plain bs n (Ok x) (((digits, some, small), value)) first same =
    let here : n ≡ digits_value 10 bs = cc in
    let back : decimal (digits_value 10 bs) ≡ bs =
    decimal-digits_value own bs digits some (λ z. absurd (first z)) (omega arith) in
    let text : decimal n ≡ bs = ap decimal here ∙ back in
    record {
      least = above_zero n (λ z. first (zero_begins bs n z text));
      most = omega arith;
      text = sym text;
    }
  where
    above_zero : (n : ℕ) → (n ≡ 0 → ⊥) → 1 ≤ n
    above_zero n h = grind arith
plain bs n (Err e) h first same = absurd cc

pub number_read : {E : Type 0} (bs : List ℕ) (n : ℕ) (r : Result ℕ E) → ParsesUnsigned 32 10 bs r
    → (get_or bs 0 0 ≡ 48 → ⊥) → (get_or bs 0 0 ≡ 43 → ⊥) → r ≡ Ok n → SpellsNumber bs n
number_read bs n r h zero plus same = plain bs n r (parse_plain own 32 bs r h plus) zero same

pub number_parses : {E : Type 0} (bs : List ℕ) (n : ℕ) (r : Result ℕ E) → ParsesUnsigned 32 10 bs r
    → SpellsNumber bs n → r ≡ Ok n
number_parses bs n r h s = parse-decimal 32 n bs r s.most (omega arith) s.text h

-- its first byte
pub number_begins : (bs : List ℕ) (n : ℕ) → SpellsNumber bs n → (0 < length bs) × (48 < get_or bs 0 0)
number_begins bs n s =
    subst (λ x. (0 < length x) × (48 < get_or x 0 0)) (sym s.text)
    (decimal_nonempty n (omega arith), first_decimal n (omega arith) (omega arith))

pub number_some : {E : Type 0} (bs : List ℕ) (o : Option ℕ) (r : Result ℕ E) → ParsesUnsigned 32 10 bs r
    → (get_or bs 0 0 ≡ 48 → ⊥) → (get_or bs 0 0 ≡ 43 → ⊥) → o ≡ result_ok r → IfSome o (SpellsNumber bs)
number_some {E = E} bs o (Ok n) h zero plus same =
    subst (λ x. IfSome x (SpellsNumber bs)) (sym same) (number_read {E = E} bs n (Ok n) h zero plus refl)
number_some {E = E} bs o (Err e) h zero plus same = subst (λ x. IfSome x (SpellsNumber bs)) (sym same) tt
