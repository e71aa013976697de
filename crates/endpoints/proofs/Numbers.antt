-- Numbers and ids in decimal, as the model reads them.
use Rattle.std.proofs.Common.{ℕ, List, [], ◌∷◌, ◌++◌, ◌≡◌, ◌<◌, ◌≤◌, ◌+◌, ◌*◌, ◌-◌, ◌^◌, length, get_or, Bool, true, false, ◌&&◌, Result, Ok, Err, Option, Some, None, IfSome, cond, sym, ap, subst, ◌∙◌, arith, rules, refl}
use Rattle.std.specs.Prelude.{nat_lt, ◌≢◌}
use Rattle.std.specs.Fmt.{decimal}
use Rattle.std.specs.Str.{all_ascii_digits, bytes_eq}
use Rattle.std.specs.Option.{option_map}
use Rattle.std.specs.Result.{OkIff, result_ok}
use Rattle.std.specs.Char.{digit_value}
use Rattle.std.specs.Str.Parse.{AllDigits, ParsesUnsigned, digits_value_after}
use Rattle.std.specs.Str.Parse.{digits_value as value_of}
use Rattle.std.proofs.lemmas.Bool.{ltb-true, lt-ltb, le-leb}
use Rattle.std.proofs.lemmas.Option.{option_and_then_some}
use Rattle.std.proofs.lemmas.Slice.Eq.{bytes_eq-Decides}
use Rattle.std.proofs.lemmas.Str.{digit_value_digit}
use Rattle.std.proofs.lemmas.Str.Parse.{IsNumeralModel, digit_at, digit_from_value, numerals_by_value, parse_plain}
use Rattle.std.proofs.lemmas.Fmt.{decimal-digits_value, decimal_digit, decimal_is_IsNumeral, first_decimal, parse-decimal}
use Rattle.at_base.specs.Numbers.{Numbers}
use Rattle.at_base.specs.IdText.{SpellsId, hyphen}
use Rattle.endpoints.specs.Addresses.{digits_value, number_of, id_of, split_at}
use Rattle.endpoints.proofs.TextSplits.{Lacks, split_first, split_whole}

pub same_option : {A : Type 0} (o p : Option A) → ((x : A) → o ≡ Some x → p ≡ Some x) → ((x : A) → p ≡ Some x → o ≡ Some x) → o ≡ p
same_option None None f g = refl
same_option None (Some y) f g = g y refl
same_option (Some x) p f g = sym (f x refl)

-- The bytes are this number in decimal.
pub record Spells (bound : ℕ) (bytes : List ℕ) (n : ℕ) : Type 0 where
  pub least : 1 ≤ n
  pub most : n < bound
  pub text : bytes ≡ decimal n

value_from : (n : ℕ) (ds : List ℕ) → AllDigits 10 ds → digits_value n ds ≡ Some (digits_value_after 10 n ds)
value_from n [] all = refl
value_from n (d ∷ ds) (first, rest) =
    let within = digit_from_value d first in
    let same : n * 10 + (d - 48) ≡ n * 10 + digit_value d = omega (arith, digit_value_digit d within) in
    rw (le-leb 48 d within.0, le-leb d 57 within.1)
    (ap (λ m. digits_value m ds) same ∙ value_from (n * 10 + digit_value d) ds rest)

number_here : (bound n : ℕ) (bytes : List ℕ) → digits_value 0 bytes ≡ Some n → nat_lt 0 n ≡ true → nat_lt n bound ≡ true
    → bytes_eq (decimal n) bytes ≡ true → number_of bound bytes ≡ Some n
number_here bound n bytes e f g h = rw (e, f, g, h) refl

pub number_some : (bound n : ℕ) (bytes : List ℕ) → n < 2 ^ 64 → Spells bound bytes n → number_of bound bytes ≡ Some n
number_some bound n bytes small s =
    let (numeral, value) = decimal_is_IsNumeral n small in
    number_here bound n bytes (ap (digits_value 0) s.text ∙ value_from 0 (decimal n) numeral.1 ∙ ap Some value)
    (lt-ltb 0 n s.least) (lt-ltb n bound s.most) ((bytes_eq-Decides (decimal n) bytes).1 (sym s.text))

tests : (a b c : Bool) (n m : ℕ) → cond (a && b && c) (Some n) None ≡ Some m → (a ≡ true) × (b ≡ true) × (c ≡ true) × (n ≡ m)
tests true true true n m e = (refl, refl, refl, cc)
tests true true false n m e = absurd cc
tests true false c n m e = absurd cc
tests false b c n m e = absurd cc

pub number_is : (bound n : ℕ) (bytes : List ℕ) → number_of bound bytes ≡ Some n → Spells bound bytes n
number_is bound n bytes e =
    option_and_then_some _ (digits_value 0 bytes) n e (λ m found value.
    let (least, most, text, same) = tests (nat_lt 0 m) (nat_lt m bound) (bytes_eq (decimal m) bytes) m n value in
    subst (Spells bound bytes) same
    (record { least = ltb-true 0 m least; most = ltb-true m bound most; text = sym ((bytes_eq-Decides (decimal m) bytes).0 text) }))

-- ids

no_hyphen : (n : ℕ) → n < 2 ^ 64 → Lacks hyphen (decimal n)
no_hyphen n small = λ i within e.
    let here = digit_at (decimal n) i (decimal_is_IsNumeral n small).0.1 within in absurd (omega arith)

id_of_parts : (text front back : List ℕ) (i c : ℕ) → split_at hyphen text ≡ Some (front, back) → number_of (2 ^ 32) front ≡ Some i
    → number_of (2 ^ 32) back ≡ Some c → id_of text ≡ Some (record { incarnation = i; counter = c })
id_of_parts text front back i c e f g = rw (e, f, g) refl

pub id_some : (text : List ℕ) (id : Numbers) → SpellsId text id → id_of text ≡ Some id
id_some text id s =
    let first = s.numbers.incarnation_most in
    let second = s.numbers.counter_most in
    id_of_parts text (decimal id.incarnation) (decimal id.counter) id.incarnation id.counter
    (ap (split_at hyphen) s.text ∙ split_first hyphen (decimal id.incarnation) (decimal id.counter) (no_hyphen id.incarnation (omega arith)))
    (number_some (2 ^ 32) id.incarnation (decimal id.incarnation) (omega arith)
    (record { least = s.numbers.incarnation_least; most = first; text = refl }))
    (number_some (2 ^ 32) id.counter (decimal id.counter) (omega arith)
    (record { least = s.numbers.counter_least; most = second; text = refl }))

counted : (i : ℕ) (o : Option ℕ) (id : Numbers) → option_map (λ c. record { incarnation = i; counter = c }) o ≡ Some id
    → (i ≡ id.incarnation) × (o ≡ Some id.counter)
counted i None id e = absurd cc
counted i (Some c) id e =
    let n : Numbers = record { incarnation = i; counter = c } in
    let same : n ≡ id = cc in
    (ap (λ (m : Numbers). m.incarnation) same, ap (λ (m : Numbers). Some m.counter) same)

pub id_is : (text : List ℕ) (id : Numbers) → id_of text ≡ Some id → SpellsId text id
id_is text id e =
    option_and_then_some _ (split_at hyphen text) id e (λ p split inner.
    option_and_then_some _ (number_of (2 ^ 32) p.0) id inner (λ i first last.
    let (same, second) = counted i (number_of (2 ^ 32) p.1) id last in
    let a = number_is (2 ^ 32) id.incarnation p.0 (first ∙ ap Some same) in
    let b = number_is (2 ^ 32) id.counter p.1 second in
    record {
      numbers = record {
        incarnation_least = a.least;
        incarnation_most = a.most;
        counter_least = b.least;
        counter_most = b.most;
      };
      text = split_whole hyphen text p split ∙ (λ k. a.text k ++ hyphen ∷ b.text k);
    }))

pub id_read : (text : List ℕ) (r : Option Numbers) → IfSome r (SpellsId text)
    → ((id : Numbers) → SpellsId text id → r ≡ Some id) → r ≡ id_of text
id_read text r h k =
    same_option r (id_of text) (λ id e. id_some text id (subst (λ o. IfSome o (SpellsId text)) e h)) (λ id e. k id (id_is text id e))

-- seats

own : IsNumeralModel (λ ds. all_ascii_digits ds ≡ true) (value_of 10)
own = numerals_by_value _ (search rules)

zero_begins : (bs : List ℕ) (n : ℕ) → n ≡ 0 → decimal n ≡ bs → get_or bs 0 0 ≡ 48
zero_begins bs n e d =
    let whole : (48 + 0) ∷ [] ≡ bs = sym (decimal_digit 0 (omega arith)) ∙ (ap decimal (sym e) ∙ d) in
    subst (λ x. get_or x 0 0 ≡ 48) whole refl

above_zero : (n : ℕ) → (n ≡ 0 → ⊥) → 1 ≤ n
above_zero n h = grind arith

plain : {E : Type 0} (bs : List ℕ) (n : ℕ) (r : Result ℕ E)
    → OkIff r ((all_ascii_digits bs ≡ true) × (0 < length bs) × (value_of 10 bs < 2 ^ 16)) (value_of 10 bs)
    → get_or bs 0 0 ≢ 48 → result_ok r ≡ Some n → Spells (2 ^ 16) bs n
plain bs n (Ok x) ((digits, some, small), value) first same =
    let here : n ≡ value_of 10 bs = cc in
    let text : decimal n ≡ bs = ap decimal here ∙ decimal-digits_value own bs digits some (λ z. absurd (first z)) (omega arith) in
    record {
      least = above_zero n (λ z. first (zero_begins bs n z text));
      most = omega arith;
      text = sym text;
    }
plain bs n (Err e) h first same = absurd cc

pub number_parsed : {E : Type 0} (bs : List ℕ) (r : Result ℕ E) → ParsesUnsigned 16 10 bs r
    → get_or bs 0 0 ≢ 48 → get_or bs 0 0 ≢ 43 → result_ok r ≡ number_of (2 ^ 16) bs
number_parsed bs r h zero plus =
    same_option (result_ok r) (number_of (2 ^ 16) bs)
    (λ n e. let s = plain bs n r (parse_plain own 16 bs r h plus) zero e in
    number_some (2 ^ 16) n bs (let small = s.most in omega arith) s)
    (λ n e. let s = number_is (2 ^ 16) n bs e in
    ap result_ok (parse-decimal 16 n bs r s.most (let small = s.most in omega arith) s.text h))

begins_with : (n : ℕ) (bs : List ℕ) → Spells (2 ^ 16) bs n → 48 < get_or bs 0 0
begins_with n bs s =
    let least = s.least in let most = s.most in
    subst (λ x. 48 < get_or x 0 0) (sym s.text) (first_decimal n (omega arith) (omega arith))

none_by : (bs : List ℕ) (o : Option ℕ) → number_of (2 ^ 16) bs ≡ o → get_or bs 0 0 < 49 → o ≡ None
none_by bs None e low = refl
none_by bs (Some n) e low = let high = begins_with n bs (number_is (2 ^ 16) n bs e) in absurd (omega arith)

pub no_number : (bs : List ℕ) → get_or bs 0 0 < 49 → number_of (2 ^ 16) bs ≡ None
no_number bs low = none_by bs (number_of (2 ^ 16) bs) refl low
