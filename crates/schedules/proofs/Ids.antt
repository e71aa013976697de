-- Texts of ids: where they split, and that a word is one exactly where it is read as one.
use Rattle.std.proofs.Common.{ℕ, List, ◌∷◌, ◌++◌, ◌≡◌, ◌<◌, ◌≤◌, ◌+◌, ◌^◌, ◌&&◌, ◌==◌, length, take, drop, get_or, Bool, true, false, cond, Result, Ok, Err, Option, Some, None, sym, ◌∙◌, ap, arith, refl, bytes_eq}
use Rattle.std.specs.Fmt.{decimal}
use Rattle.std.specs.List.{before_first, after_first, position_or_len}
use Rattle.std.specs.Str.Parse.{digits_value}
use Rattle.std.proofs.lemmas.Slice.Eq.{bytes_eq-Decides}
use Rattle.std.proofs.lemmas.Fmt.{digits_decimal, digits_value-decimal}
use Rattle.std.proofs.lemmas.Str.Parse.{digit_at}
use Rattle.std.proofs.lemmas.List.Sums.{position_or_len_is}
use Rattle.std.proofs.Math.ListN.{get_or-append}
use Rattle.std.proofs.Math.Seq.{get_or-append_seam, take-append_seam, drop-append-add}
use Rattle.std.proofs.Math.ListN.{length-append}
use Rattle.std.proofs.lemmas.Bool.Decides.{nat_tests}
use Rattle.at_base.specs.IdText.{SpellsId, hyphen, id_text}
use Rattle.at_base.specs.Numbers.{Numbers}
use Rattle.schedules.specs.declared.line.Cause.{Cause}
use Rattle.schedules.specs.declared.line.Cause.TheVariants.{Identifier}
use Rattle.schedules.specs.Values.{id_in, is_part, numbers_of, spelled_id}
use Rattle.schedules.proofs.Decimals.{own}

no_hyphen : (n k : ℕ) → n < 2 ^ 64 → k < length (decimal n) → (get_or (decimal n) k 0 == hyphen) ≡ false
no_hyphen n k small within =
    let here = digit_at (decimal n) k (own.to (decimal n) (digits_decimal own n small)) within in grind (arith, nat_tests)

splits_at : (i : ℕ) (back : List ℕ) → i < 2 ^ 64
    → position_or_len (λ b. b == hyphen) (decimal i ++ hyphen ∷ back) ≡ length (decimal i)
splits_at i back small =
    position_or_len_is (λ b. b == hyphen) (decimal i ++ hyphen ∷ back) (length (decimal i)) 0
    (omega (arith, length-append (decimal i) (hyphen ∷ back)))
    (λ k within. ap (λ b. b == hyphen) (get_or-append (decimal i) (hyphen ∷ back) 0 k within) ∙ no_hyphen i k small within)
    (λ within. ap (λ b. b == hyphen) (get_or-append_seam (decimal i) hyphen back 0))

front : (i : ℕ) (back : List ℕ) → i < 2 ^ 64 → before_first (λ b. b == hyphen) (decimal i ++ hyphen ∷ back) ≡ decimal i
front i back small =
    ap (λ n. take n (decimal i ++ hyphen ∷ back)) (splits_at i back small) ∙ take-append_seam (decimal i) (hyphen ∷ back)

behind : (i : ℕ) (back : List ℕ) → i < 2 ^ 64 → after_first (λ b. b == hyphen) (decimal i ++ hyphen ∷ back) ≡ back
behind i back small =
    ap (λ n. drop (n + 1) (decimal i ++ hyphen ∷ back)) (splits_at i back small) ∙ drop-append-add (decimal i) (hyphen ∷ back) 1

same_numbers : (bs : List ℕ) (id : Numbers) → SpellsId bs id → numbers_of bs ≡ id
same_numbers bs id s =
    let a = s.numbers.incarnation_most in
    let b = s.numbers.counter_most in
    let i = ap (digits_value 10) (ap (before_first (λ c. c == hyphen)) s.text ∙ front id.incarnation (decimal id.counter) (omega arith))
    ∙ digits_value-decimal own id.incarnation (omega arith) in
    let n = ap (digits_value 10) (ap (after_first (λ c. c == hyphen)) s.text ∙ behind id.incarnation (decimal id.counter) (omega arith))
    ∙ digits_value-decimal own id.counter (omega arith) in
    λ j. record { incarnation = i j; counter = n j }

part : (n : ℕ) → 1 ≤ n → n < 2 ^ 32 → is_part n ≡ true
part n least most = grind (arith, nat_tests)

pub id_there : (bs : List ℕ) (id : Numbers) → SpellsId bs id → id_in bs ≡ Ok id
id_there bs id s =
    let ids = s.numbers in
    let text = (bytes_eq-Decides (id_text id) bs).1 (sym s.text) in
    ap (λ x. spelled_id x bs) (same_numbers bs id s)
    ∙ rw (part id.incarnation ids.incarnation_least ids.incarnation_most) (rw (part id.counter ids.counter_least ids.counter_most) (rw text refl))

pub is_id : (bs : List ℕ) (id : Numbers) → is_part id.incarnation ≡ true → is_part id.counter ≡ true → bytes_eq (id_text id) bs ≡ true → SpellsId bs id
is_id bs id i n t = record {
  numbers = record {
    incarnation_least = grind (arith, nat_tests, i);
    incarnation_most = grind (arith, nat_tests, i);
    counter_least = grind (arith, nat_tests, n);
    counter_most = grind (arith, nat_tests, n);
  };
  text = sym ((bytes_eq-Decides (id_text id) bs).0 t);
}

pub none_there : (bs : List ℕ) → ((id : Numbers) → SpellsId bs id → ⊥) → id_in bs ≡ Err Identifier
none_there bs never =
    by_case (numbers_of bs) (is_part (numbers_of bs).incarnation) (is_part (numbers_of bs).counter) (bytes_eq (id_text (numbers_of bs)) bs) refl refl refl
  where
    by_case : (id : Numbers) (a b c : Bool) → is_part id.incarnation ≡ a → is_part id.counter ≡ b → bytes_eq (id_text id) bs ≡ c
        → ◌≡◌ {A = Result Numbers Cause} (cond (a && b && c) (Ok id) (Err Identifier)) (Err Identifier)
    by_case id true true true p q r = absurd (never id (is_id bs id p q r))
    by_case id true true false p q r = refl
    by_case id true false c p q r = refl
    by_case id false b c p q r = refl

pub unsaid : (id : Numbers) → ◌≡◌ {A = Option Numbers} None (Some id) → ⊥
unsaid id e = cc
