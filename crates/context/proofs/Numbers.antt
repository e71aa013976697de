-- Numbers in decimal.
use Rattle.std.proofs.Common.{ℕ, List, [], ◌∷◌, ◌≡◌, ◌≢◌, ◌<◌, ◌≤◌, ◌^◌, get_or, Bool, true, false, ◌&&◌, Result, Ok, Err, Some, sym, ◌∙◌, ap, arith, rules, refl, subst}
use Rattle.std.specs.Prelude.{nat_le}
use Rattle.std.specs.Fmt.{decimal}
use Rattle.std.specs.Int.{IsInRange}
use Rattle.std.specs.Result.{OkIff, result_ok}
use Rattle.std.specs.Char.{is_ascii_digit}
use Rattle.std.specs.Str.{all_ascii_digits}
use Rattle.std.specs.Str.Parse.{IsNumeral, ParsesUnsigned, digits_value, without_leading_plus}
use Rattle.std.proofs.lemmas.Bool.{le-leb, leb-true}
use Rattle.std.proofs.lemmas.Str.Parse.{IsNumeralModel, not_in_digits, numerals_by_value, without_leading_plus_none}
use Rattle.std.proofs.lemmas.Fmt.{decimal_is_IsNumeral, decimal_nonempty, digits_decimal}
use Rattle.soap_profile.specs.Values.{is_white, trim, trim_end, trim_start}
use Rattle.context.specs.Bodies.{are_digits, digits_number, number_of}

own : IsNumeralModel (λ ds. all_ascii_digits ds ≡ true) (digits_value 10)
own = numerals_by_value _ (search rules)

both : (a b : Bool) → a && b ≡ true → (a ≡ true) × (b ≡ true)
both true b h = (refl, h)
both false b h = absurd cc

both_true : (a b : Bool) → a ≡ true → b ≡ true → a && b ≡ true
both_true a b e f = rw (e, f) refl

digits_are : (ds : List ℕ) → IsNumeral 10 ds → digits_value 10 ds < 2 ^ 32 → are_digits ds ≡ true
digits_are [] (some, all) small = absurd (omega (arith, some))
digits_are (d ∷ ds) (some, all) small =
    both_true (all_ascii_digits (d ∷ ds)) (nat_le (digits_value 10 (d ∷ ds)) 4294967295) (own.from (d ∷ ds) all)
    (le-leb (digits_value 10 (d ∷ ds)) 4294967295 (omega (arith, small)))

are_so : (ds : List ℕ) → are_digits ds ≡ true → IsNumeral 10 ds × (digits_value 10 ds < 2 ^ 32)
are_so [] h = absurd cc
are_so (d ∷ ds) h =
    let (all, small) = both (all_ascii_digits (d ∷ ds)) (nat_le (digits_value 10 (d ∷ ds)) 4294967295) h in
    let most : digits_value 10 (d ∷ ds) ≤ 4294967295 = leb-true (digits_value 10 (d ∷ ds)) 4294967295 small in
    ((omega arith, own.to (d ∷ ds) all), omega (arith, most))

number_read : (E : Type 0) (ds : List ℕ) (b : Bool) (r : Result ℕ E) → are_digits ds ≡ b
    → OkIff r (IsNumeral 10 ds × (digits_value 10 ds < 2 ^ 32)) (digits_value 10 ds) → result_ok r ≡ digits_number ds
number_read E ds true (Ok x) e ((numeral, small), same) = rw e (ap Some same)
number_read E ds false (Ok x) e ((numeral, small), same) = let f : are_digits ds ≡ true = digits_are ds numeral small in absurd cc
number_read E ds true (Err fault) e h = absurd (h (are_so ds e))
number_read E ds false (Err fault) e h = rw e refl

pub parsed : {E : Type 0} (text : List ℕ) (r : Result ℕ E) → ParsesUnsigned 32 10 text r → result_ok r ≡ number_of text
parsed {E = E} text r h = number_read E (without_leading_plus text) (are_digits (without_leading_plus text)) r refl h

-- what is written in decimal
digits_said : (ds : List ℕ) (n : ℕ) → are_digits ds ≡ true → digits_value 10 ds ≡ n → digits_number ds ≡ Some n
digits_said ds n h e = rw h (ap Some e)

no_plus : IsInRange 48 57 43 → ⊥
no_plus h = omega (arith, h.0)

pub number_written : (n : ℕ) → n < 2 ^ 32 → number_of (decimal n) ≡ Some n
number_written n small =
    let (numeral, same) = decimal_is_IsNumeral n (omega (arith, small)) in
    let signless : get_or (decimal n) 0 0 ≢ 43 =
    not_in_digits own (decimal n) 43 (own.from (decimal n) numeral.1) no_plus 0 (decimal_nonempty n (omega (arith, small))) in
    ap digits_number (without_leading_plus_none (decimal n) signless)
    ∙ digits_said (decimal n) n (digits_are (decimal n) numeral (subst (λ k. k < 2 ^ 32) (sym same) small)) same

-- digits have no white space at their ends
not_white : (d : ℕ) → is_ascii_digit d ≡ true → is_white d ≡ false
not_white d h = grind (arith)

end_digits : (ds : List ℕ) → all_ascii_digits ds ≡ true → trim_end ds ≡ ds
end_digits [] h = refl
end_digits (d ∷ ds) h =
    let (first, rest) = both (is_ascii_digit d) (all_ascii_digits ds) h in rw (not_white d first, end_digits ds rest) refl

start_digits : (ds : List ℕ) → all_ascii_digits ds ≡ true → trim_start ds ≡ ds
start_digits [] h = refl
start_digits (d ∷ ds) h =
    let (first, rest) = both (is_ascii_digit d) (all_ascii_digits ds) h in rw (not_white d first) refl

pub decimal_trimmed : (n : ℕ) → n < 2 ^ 32 → trim (decimal n) ≡ decimal n
decimal_trimmed n small =
    let all : all_ascii_digits (decimal n) ≡ true = digits_decimal own n (omega (arith, small)) in
    ap trim_end (start_digits (decimal n) all) ∙ end_digits (decimal n) all
