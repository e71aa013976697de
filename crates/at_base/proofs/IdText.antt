-- Where the text of an id splits.
use Rattle.std.proofs.Common.{ℕ, List, [], ◌∷◌, ◌≡◌, ◌<◌, ◌^◌, length, get_or, Bor, Result, Ok, Err, Option, Some, None, sym, arith, rules, subst}
use Rattle.std.specs.Fmt.{decimal}
use Rattle.std.specs.Option.{MatchOption}
use Rattle.std.specs.Result.{MatchResult, result_ok}
use Rattle.std.specs.Str.{IsUtf8}
use Rattle.std.proofs.lemmas.Str.{IsUtf8-from_ascii, IsAscii-append}
use Rattle.std.proofs.lemmas.Str.Ascii.{IsAscii-from_all}
use Rattle.std.proofs.lemmas.Str.Parse.{digit_at}
use Rattle.std.proofs.lemmas.Str.Pattern.{IsSplitOnceResult, split_after}
use Rattle.std.proofs.lemmas.Fmt.{IsAscii-decimal, digits_decimal}
use Rattle.at_base.specs.Numbers.{Numbers}
use Rattle.at_base.specs.IdText.{SpellsId, SpellsNumber, id_text, hyphen}
use Rattle.at_base.proofs.Numbers.{own}

no_hyphen : (n : ℕ) → n < 2 ^ 64 → (i : ℕ) → i < length (decimal n) → get_or (decimal n) i 0 ≡ hyphen → ⊥
no_hyphen n small i within e =
    let here = digit_at (decimal n) i (own.to (decimal n) (digits_decimal own n small)) within in omega arith

-- the two parts of its text
abbrev pub SplitsId : Numbers → Option (Bor (List ℕ) × Bor (List ℕ)) → Type 0
SplitsId id r = MatchOption r ⊥ (λ x. (x.0.now ≡ decimal id.incarnation) × (x.1.now ≡ decimal id.counter))

pub id_splits : (bs : List ℕ) (id : Numbers) (r : Option (Bor (List ℕ) × Bor (List ℕ))) → IsSplitOnceResult hyphen bs r
    → SpellsId bs id → SplitsId id r
id_splits bs id r h s =
    split_after hyphen bs (decimal id.incarnation) (decimal id.counter) r h (omega arith) s.text
    (no_hyphen id.incarnation (let m = s.numbers.incarnation_most in omega arith))

pub id_utf8 : (bs : List ℕ) (id : Numbers) → SpellsId bs id → IsUtf8 bs
id_utf8 bs id s =
    let a = s.numbers.incarnation_most in
    let b = s.numbers.counter_most in
    subst IsUtf8 (sym s.text) (IsUtf8-from_ascii (id_text id)
    (IsAscii-append (decimal id.incarnation) (hyphen ∷ decimal id.counter) (IsAscii-decimal id.incarnation (omega arith))
    (IsAscii-append (hyphen ∷ []) (decimal id.counter) (IsAscii-from_all (hyphen ∷ []) (search rules)) (IsAscii-decimal id.counter (omega arith)))))

pub id_incarnation : (bs front : List ℕ) (id : Numbers) → SpellsId bs id → front ≡ decimal id.incarnation → SpellsNumber front id.incarnation
id_incarnation bs front id s e = record { least = s.numbers.incarnation_least; most = s.numbers.incarnation_most; text = e }

pub id_counter : (bs back : List ℕ) (id : Numbers) → SpellsId bs id → back ≡ decimal id.counter → SpellsNumber back id.counter
id_counter bs back id s e = record { least = s.numbers.counter_least; most = s.numbers.counter_most; text = e }

pub refused : {T E : Type 0} (r : Result T E) (P : T → Type 0) (Q : E → Type 0) → MatchResult r P Q → result_ok r ≡ None
    → ((e : E) → Q e → ⊥) → ⊥
refused (Ok x) P Q h same never = absurd cc
refused (Err e) P Q h same never = never e h

pub taken : {T E : Type 0} (r : Result T E) (P : T → Type 0) (Q : E → Type 0) (x : T) → MatchResult r P Q
    → result_ok r ≡ Some x → P x
taken (Ok y) P Q x h same = let e : y ≡ x = cc in subst P e h
taken (Err e) P Q x h same = absurd cc

pub same_id : (a b : Numbers) → a.incarnation ≡ b.incarnation → a.counter ≡ b.counter → a ≡ b
same_id a b e f = λ i. record { incarnation = e i; counter = f i }

pub clash : (o : Option ℕ) (x : ℕ) → o ≡ Some x → o ≡ None → ⊥
clash o x e f = cc

pub agree : (o : Option ℕ) (x y : ℕ) → o ≡ Some x → o ≡ Some y → x ≡ y
agree o x y e f = cc
