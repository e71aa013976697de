-- A number that is too high for a character may as well be counted no further.
use Rattle.std.proofs.Common.{◌≡◌, inl, inr, refl, sym, arith, ℕ, ◌+◌, ◌*◌, ◌≤◌, List, [], ◌∷◌, Bool, true, false, cond, Option, Some, None, min, nat_eq, nat_le, ◌&&◌, ◌||◌}
use Rattle.std.proofs.lemmas.Bool.{ne_eqb, lt-leb, cases_lt}
use Rattle.at_base.specs.Chars.{is_xml_char}
use Rattle.xml_grammar.specs.Characters.{found}
use Rattle.xml_grammar.specs.Tokens.{hexadecimal, decimal_digit, digits_from, numbered}
use Rattle.xml_grammar.specs.Code.Digits.{digit_in, base_of, add_digit, capped_from}

add_same : (hex : Bool) (n m d : ℕ) → m ≡ min n 1114112 → add_digit hex m d ≡ min (n * base_of hex + d) 1114112
add_same true n m d e = omega arith
add_same false n m d e = omega arith

not_high : (n : ℕ) → 1114112 ≤ n → is_xml_char n ≡ false
not_high n h =
    let a : nat_eq n 9 ≡ false = ne_eqb n 9 (λ e. omega arith) in
    let b : nat_eq n 10 ≡ false = ne_eqb n 10 (λ e. omega arith) in
    let c : nat_eq n 13 ≡ false = ne_eqb n 13 (λ e. omega arith) in
    let d : nat_le n 55295 ≡ false = lt-leb n 55295 (omega arith) in
    let e : nat_le n 65533 ≡ false = lt-leb n 65533 (omega arith) in
    let f : nat_le n 1114111 ≡ false = lt-leb n 1114111 (omega arith) in
    rw (a, b, c, d, e, f) (three_false (nat_le 32 n) (nat_le 57344 n) (nat_le 65536 n))
  where
    three_false : (a b c : Bool) → ((a && false) || (b && false) || (c && false)) ≡ false
    three_false true true true = refl
    three_false true true false = refl
    three_false true false true = refl
    three_false true false false = refl
    three_false false true true = refl
    three_false false true false = refl
    three_false false false true = refl
    three_false false false false = refl

ended : (n m : ℕ) (cs : List ℕ) → m ≡ min n 1114112 → numbered (Some (n, cs)) ≡ numbered (Some (m, cs))
ended n m cs e = elim (cases_lt n 1114112) [
  | inl h ↦ let k : m ≡ n = omega arith in rw k refl
  | inr h ↦ let k : m ≡ 1114112 = omega arith in rw (k, not_high n h) refl
]

pub capped_same : (hex any : Bool) (n m : ℕ) (cs : List ℕ) → m ≡ min n 1114112 → numbered (digits_from (base_of hex) (digit_in hex) any n cs) ≡ numbered (capped_from hex any m cs)
capped_same hex any n m [] e = refl
capped_same hex any n m (c ∷ cs) e = step (digit_in hex c) (λ d. capped_same hex true (n * base_of hex + d) (add_digit hex m d) cs (add_same hex n m d e))
  where
    closing : (b : Bool) → numbered (cond {A = Option (ℕ × List ℕ)} b (Some (n, cs)) None) ≡ numbered (cond {A = Option (ℕ × List ℕ)} b (Some (m, cs)) None)
    closing true = ended n m cs e
    closing false = refl

    step : (o : Option ℕ) → ((d : ℕ) → numbered (digits_from (base_of hex) (digit_in hex) true (n * base_of hex + d) cs) ≡ numbered (capped_from hex true (add_digit hex m d) cs))
        → numbered (found {B = Option (ℕ × List ℕ)} o (λ d. digits_from (base_of hex) (digit_in hex) true (n * base_of hex + d) cs) (cond (any && nat_eq c 59) (Some (n, cs)) None))
        ≡ numbered (found {B = Option (ℕ × List ℕ)} o (λ d. capped_from hex true (add_digit hex m d) cs) (cond (any && nat_eq c 59) (Some (m, cs)) None))
    step None go = closing (any && nat_eq c 59)
    step (Some d) go = go d

pub hexadecimal_same : (cs : List ℕ) → numbered (capped_from true false 0 cs) ≡ numbered (digits_from 16 hexadecimal false 0 cs)
hexadecimal_same cs = sym (capped_same true false 0 0 cs refl)

pub decimal_same : (cs : List ℕ) → numbered (capped_from false false 0 cs) ≡ numbered (digits_from 10 decimal_digit false 0 cs)
decimal_same cs = sym (capped_same false false 0 0 cs refl)
