-- What stands behind the last colon.
use Rattle.std.proofs.Common.{ℕ, List, [], ◌∷◌, ◌++◌, ◌≡◌, ◌<◌, suc, length, get_or, take, drop, true, false, Bor, Option, Some, None, sym, ap, ◌∙◌, arith, refl}
use Rattle.std.specs.Prelude.{nat_eq, ◌≢◌}
use Rattle.std.specs.Option.{MatchOption}
use Rattle.std.specs.Str.Pattern.{RFindsChar, SplitsAroundMatch}
use Rattle.std.proofs.lemmas.Bool.{ne_eqb}
use Rattle.std.proofs.lemmas.List.{take-append-drop}
use Rattle.std.proofs.lemmas.Str.Pattern.{NoCharPasses-char, drop_at_char}
use Rattle.std.proofs.Math.Bool.{or-true}
use Rattle.soap_profile.specs.Faults.{has_colon, local_part}

-- no byte of the list is this one
abbrev Lacks : ℕ → List ℕ → Type 0
Lacks c bytes = (i : ℕ) → i < length bytes → get_or bytes i 0 ≢ c

colon_none : (text : List ℕ) → Lacks 58 text → has_colon text ≡ false
colon_none [] h = refl
colon_none (c ∷ cs) h = rw (ne_eqb c 58 (h 0 (omega arith)), colon_none cs (λ i l. h (suc i) (omega arith))) refl

colon_in : (front back : List ℕ) → has_colon (front ++ 58 ∷ back) ≡ true
colon_in [] back = refl
colon_in (c ∷ front) back = rw (colon_in front back) (or-true (nat_eq c 58))

pub local_stops : (text : List ℕ) → has_colon text ≡ false → local_part text ≡ text
local_stops [] e = refl
local_stops (c ∷ cs) e = rw e refl

pub local_goes : (c : ℕ) (cs : List ℕ) → has_colon (c ∷ cs) ≡ true → local_part (c ∷ cs) ≡ local_part cs
local_goes c cs e = rw e refl

pub local_last : (front back : List ℕ) → has_colon back ≡ false → local_part (front ++ 58 ∷ back) ≡ back
local_last [] back h = local_goes 58 back refl ∙ local_stops back h
local_last (c ∷ front) back h =
    local_goes c (front ++ 58 ∷ back) (colon_in (c ∷ front) back) ∙ local_last front back h

abbrev pub last_or : List ℕ → Option (Bor (List ℕ) × Bor (List ℕ)) → List ℕ
last_or text None = text
last_or text (Some parts) = parts.1.now

pub last_part : (text : List ℕ) (r : Option (Bor (List ℕ) × Bor (List ℕ)))
    → MatchOption r (RFindsChar 58 text None) (λ x. SplitsAroundMatch (RFindsChar 58) text x.0.now x.1.now)
    → last_or text r ≡ local_part text
last_part text None h = sym (local_stops text (colon_none text (λ i. NoCharPasses-char 58 text i h (omega arith))))
last_part text (Some parts) (i, j, found, front, back, order, size, rest) =
    let free : Lacks 58 (drop j text) = λ k. NoCharPasses-char 58 (drop j text) k found.0 (omega arith) in
    let whole : text ≡ take i text ++ 58 ∷ drop j text =
    sym (take-append-drop i text) ∙ ap (λ (l : List ℕ). take i text ++ l) (drop_at_char 58 text i j found.1 (omega arith)) in
    back ∙ sym (ap local_part whole ∙ local_last (take i text) (drop j text) (colon_none (drop j text) free))
