-- Texts that are put together of lines are cut into these again.
use Rattle.std.proofs.Common.{ℕ, List, [], ◌∷◌, ◌++◌, ◌≡◌, ◌⊎◌, inl, inr, ◌<◌, ◌==◌, ◌&&◌, not, Bool, true, false, cond, ◌∙◌, ap, arith, refl, sym, length, map}
use Rattle.std.specs.List.{AllByRecursion, onto_first, list_all, slice_split}
use Rattle.std.proofs.lemmas.Bool.Decides.{nat_tests}
use Rattle.std.proofs.lemmas.List.{append_assoc, append_cancel_right}
use Rattle.std.proofs.lemmas.List.Splits.{length-slice_split}
use Rattle.schedules.specs.Words.{ended, unless_empty, is_plain, is_printable, lines_of}
use Rattle.schedules.proofs.Wholes.{fed}

both : (a b : Bool) → (a && b) ≡ true → (a ≡ true) × (b ≡ true)
both true b e = (refl, e)
both false b e = absurd cc

-- a text without a byte
abbrev pub is_free : ℕ → List ℕ → Bool
is_free c w = list_all (λ b. not (b == c)) w

free_plain : (w : List ℕ) → is_plain w ≡ true → is_free 10 w ≡ true
free_plain [] e = refl
free_plain (x ∷ xs) e =
    let p = both (is_printable x) (is_plain xs) e in
    let here : not (x == 10) ≡ true = grind (arith, nat_tests, p.0) in
    rw here (free_plain xs p.1)

not_cut : (b : Bool) → not b ≡ true → b ≡ false
not_cut true e = absurd cc
not_cut false e = refl

same_byte : (c : ℕ) → (c == c) ≡ true
same_byte c = grind (arith, nat_tests)

pub one_part : (c : ℕ) (w : List ℕ) → is_free c w ≡ true → slice_split (λ b. b == c) w ≡ w ∷ []
one_part c [] e = refl
one_part c (x ∷ xs) e =
    let p = both (not (x == c)) (is_free c xs) e in
    rw (not_cut (x == c) p.0) (ap (onto_first x) (one_part c xs p.1))

pub first_part : (c : ℕ) (w rest : List ℕ) → is_free c w ≡ true
    → slice_split (λ b. b == c) (w ++ c ∷ rest) ≡ w ∷ slice_split (λ b. b == c) rest
first_part c [] rest e = rw (same_byte c) refl
first_part c (x ∷ xs) rest e =
    let p = both (not (x == c)) (is_free c xs) e in
    rw (not_cut (x == c) p.0) (ap (onto_first x) (first_part c xs rest p.1))

abbrev pub IsPlain : List ℕ → Type 0
IsPlain text = is_plain text ≡ true

abbrev pub IsKept : List ℕ → Type 0
IsKept text = unless_empty text ≡ text ∷ []

abbrev parts_of : List ℕ → List (List ℕ)
parts_of text = slice_split (λ b. b == 10) text

cut_fed : (ts : List (List ℕ)) → AllByRecursion IsPlain ts → parts_of (fed ts) ≡ ts ++ [] ∷ []
cut_fed [] h = refl
cut_fed (t ∷ ts) h =
    ap parts_of (append_assoc t (10 ∷ []) (fed ts))
    ∙ (first_part 10 t (fed ts) (free_plain t h.0) ∙ ap (λ more. t ∷ more) (cut_fed ts h.1))

ended_back : (ts : List (List ℕ)) → ended (ts ++ [] ∷ []) ≡ ts
ended_back [] = refl
ended_back (t ∷ []) = refl
ended_back (t ∷ u ∷ more) = ap (λ ts. t ∷ ts) (ended_back (u ∷ more))

ended_whole : (ts : List (List ℕ)) → AllByRecursion IsKept ts → ended ts ≡ ts
ended_whole [] h = refl
ended_whole (t ∷ []) h = h.0
ended_whole (t ∷ u ∷ more) h = ap (λ ts. t ∷ ts) (ended_whole (u ∷ more) h.1)

onto_front : (x : ℕ) (parts more : List (List ℕ)) → 0 < length parts → onto_first x (parts ++ more) ≡ onto_first x parts ++ more
onto_front x [] more h = absurd (omega (arith, h))
onto_front x (p ∷ parts) more h = refl

split_more : (text : List ℕ) → parts_of (text ++ 10 ∷ []) ≡ parts_of text ++ [] ∷ []
split_more [] = refl
split_more (x ∷ xs) = by_case (x == 10) (split_more xs)
  where
    some : 0 < length (parts_of xs)
    some = omega (arith, length-slice_split (λ b. b == 10) xs)

    by_case : (b : Bool) → parts_of (xs ++ 10 ∷ []) ≡ parts_of xs ++ [] ∷ []
        → cond b ([] ∷ parts_of (xs ++ 10 ∷ [])) (onto_first x (parts_of (xs ++ 10 ∷ []))) ≡ cond b ([] ∷ parts_of xs) (onto_first x (parts_of xs)) ++ [] ∷ []
    by_case true h = ap (λ ts. [] ∷ ts) h
    by_case false h = ap (onto_first x) h ∙ onto_front x (parts_of xs) ([] ∷ []) some

pub lines_are : (text : List ℕ) (ts : List (List ℕ)) → AllByRecursion IsPlain ts → AllByRecursion IsKept ts
    → (text ≡ fed ts) ⊎ (text ++ 10 ∷ [] ≡ fed ts) → lines_of text ≡ ts
lines_are text ts plain kept (inl e) = ap ended (ap parts_of e ∙ cut_fed ts plain) ∙ ended_back ts
lines_are text ts plain kept (inr e) =
    let same = append_cancel_right (parts_of text) ts ([] ∷ []) (sym (split_more text) ∙ (ap parts_of e ∙ cut_fed ts plain)) in
    ap ended same ∙ ended_whole ts kept

pub all_texts : {A : Type 0} (text_of : A → List ℕ) (P : List ℕ → Type 0) (xs : List A) → AllByRecursion (λ x. P (text_of x)) xs → AllByRecursion P (map text_of xs)
all_texts text_of P [] h = tt
all_texts text_of P (x ∷ xs) h = (h.0, all_texts text_of P xs h.1)
