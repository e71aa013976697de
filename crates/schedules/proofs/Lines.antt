-- The first line of a text and what is behind it; plain lines are UTF-8.
use Rattle.std.proofs.Common.{rules, ℕ, ◌-◌, ◌&&◌, Option, Result, Ok, Err, Bor, List, [], ◌∷◌, ◌≡◌, ◌<◌, ◌≤◌, ◌+◌, ◌==◌, not, length, take, drop, Bool, true, false, cond, sym, ◌∙◌, ap, arith, refl, subst}
use Rattle.std.specs.List.{after_first, before_first, position_or_len, slice_split, onto_first}
use Rattle.std.proofs.lemmas.List.Splits.{length-slice_split, slice_split_first}
use Rattle.std.specs.List.{All}
use Rattle.std.specs.Option.{MatchOption}
use Rattle.std.specs.Result.{MatchResult, result_ok}
use Rattle.std.specs.Str.{IsAscii, IsUtf8}
use Rattle.std.proofs.Math.Seq.{take-length}
use Rattle.std.proofs.lemmas.List.{length-drop}
use Rattle.std.proofs.lemmas.Bool.Decides.{nat_tests}
use Rattle.std.proofs.lemmas.Str.{IsAscii-append, IsUtf8-from_ascii}
use Rattle.std.proofs.lemmas.Str.Ascii.{IsAscii-nil, IsAscii-from_all}
use Rattle.schedules.specs.Words.{ended, lines_of, is_plain, is_printable}

abbrev pub feeds : ℕ → Bool
feeds b = b == 10

one_part : (xs : List ℕ) → position_or_len feeds xs ≡ length xs → slice_split feeds xs ≡ xs ∷ []
one_part [] e = refl
one_part (x ∷ xs) e = by_case (x == 10) refl (one_part xs) e
  where
    by_case : (b : Bool) → (x == 10) ≡ b → (position_or_len feeds xs ≡ length xs → slice_split feeds xs ≡ xs ∷ []) → cond (not b) (1 + position_or_len feeds xs) 0 ≡ length (x ∷ xs)
        → cond b ([] ∷ slice_split feeds xs) (onto_first x (slice_split feeds xs)) ≡ (x ∷ xs) ∷ []
    by_case true p more e = absurd (omega (arith, e))
    by_case false p more e = ap (onto_first x) (more (omega (arith, e)))

ended_with : (line : List ℕ) (parts : List (List ℕ)) → 0 < length parts → ended (line ∷ parts) ≡ line ∷ ended parts
ended_with line [] h = absurd (omega (arith, h))
ended_with line (next ∷ more) h = refl

ended_alone : (last : List ℕ) → 0 < length last → ended (last ∷ []) ≡ last ∷ []
ended_alone [] h = absurd (omega (arith, h))
ended_alone (c ∷ cs) h = refl

pub first_of : (text : List ℕ) (n : ℕ) → n ≡ position_or_len feeds text → n < length text
    → lines_of text ≡ take n text ∷ lines_of (drop (n + 1) text)
first_of text n e within =
    ap ended (slice_split_first feeds text 0 (omega (arith, e)))
    ∙ ended_with (before_first feeds text) (slice_split feeds (after_first feeds text))
    (omega (arith, length-slice_split feeds (after_first feeds text)))
    ∙ ap (λ k. take k text ∷ lines_of (drop (k + 1) text)) (sym e)

pub last_of : (text : List ℕ) (n : ℕ) → n ≡ position_or_len feeds text → length text ≤ n → n ≤ length text → 0 < length text
    → lines_of text ≡ text ∷ []
last_of text n e over within some = ap ended (one_part text (omega (arith, e))) ∙ ended_alone text some

all_behind : (k : ℕ) (xs : List ℕ) → take (length xs - k) (drop k xs) ≡ drop k xs
all_behind k xs = ap (λ n. take n (drop k xs)) (sym (length-drop k xs)) ∙ take-length (drop k xs)

pub first_cut : (text : List ℕ) (n : ℕ) → n ≡ position_or_len feeds text → n < length text
    → (lines_of text ≡ take n text ∷ lines_of (take (length text - (n + 1)) (drop (n + 1) text)))
    × (length (take (length text - (n + 1)) (drop (n + 1) text)) < length text)
first_cut text n e within = (
  first_of text n e within ∙ ap (λ x. take n text ∷ lines_of x) (sym (all_behind (n + 1) text)),
  omega (arith, ap length (all_behind (n + 1) text), length-drop (n + 1) text),
)

pub last_cut : (text : List ℕ) (n : ℕ) → n ≡ position_or_len feeds text → length text ≤ n → n ≤ length text → 0 < length text
    → (lines_of text ≡ text ∷ lines_of (take (length text - n) (drop n text)))
    × (length (take (length text - n) (drop n text)) < length text)
last_cut text n e over within some =
    let none : length (take (length text - n) (drop n text)) ≡ 0 = ap length (all_behind n text) ∙ (length-drop n text ∙ omega arith) in (
      last_of text n e over within some ∙ ap (λ x. text ∷ lines_of x) (sym (is_empty (take (length text - n) (drop n text)) none)),
      omega (arith, none, some),
    )
  where
    is_empty : (xs : List ℕ) → length xs ≡ 0 → xs ≡ []
    is_empty [] e = refl
    is_empty (x ∷ xs) e = absurd (omega (arith, e))

plain_ascii : (bs : List ℕ) → is_plain bs ≡ true → IsAscii bs
plain_ascii [] e = IsAscii-nil
plain_ascii (b ∷ bs) e = by_case (is_printable b) refl (plain_ascii bs) e
  where
    one : b < 128 → All (λ x. x < 128) (b ∷ [])
    one h = search (rules, h)

    by_case : (c : Bool) → is_printable b ≡ c → (is_plain bs ≡ true → IsAscii bs) → (c && is_plain bs) ≡ true → IsAscii (b ∷ bs)
    by_case true p more e = IsAscii-append (b ∷ []) bs (IsAscii-from_all (b ∷ []) (one (grind (arith, nat_tests, p)))) (more e)
    by_case false p more e = absurd cc

-- a reading that fails only where the bytes aren't UTF-8
pub plain_read : {E : Type 0} (bs : List ℕ) (o : Option (Bor (List ℕ))) (r : Result (Bor (List ℕ)) E) (Q : E → Type 0)
    → MatchResult r (λ s. (s.now ≡ bs) × IsUtf8 bs) Q → ((e : E) → Q e → IsUtf8 bs → ⊥)
    → o ≡ result_ok r → is_plain bs ≡ true
    → MatchOption o (is_plain bs ≡ false) (λ s. (is_plain bs ≡ true) × (s.now ≡ bs))
plain_read bs o (Ok s) Q h never e p =
    subst (λ x. MatchOption x (is_plain bs ≡ false) (λ s. (is_plain bs ≡ true) × (s.now ≡ bs))) (sym e) (p, h.0)
plain_read bs o (Err x) Q h never e p = absurd (never x h (IsUtf8-from_ascii bs (plain_ascii bs p)))

pub some_byte : (bs : List ℕ) → (length bs == 0) ≡ false → 0 < length bs
some_byte bs h = grind (arith, nat_tests, h)
