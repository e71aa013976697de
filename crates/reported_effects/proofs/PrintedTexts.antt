-- Texts that are put together of whole lines, and what these tell.
use Rattle.std.proofs.Common.{ℕ, List, [], ◌∷◌, ◌++◌, ◌≡◌, ◌||◌, ◌==◌, Bool, true, false, cond, refl, sym, ap, ◌∙◌, map}
use Rattle.std.specs.Prelude.{codes, filter}
use Rattle.std.specs.List.{AllByRecursion, list_any, onto_first, slice_split}
use Rattle.std.proofs.lemmas.List.{append_assoc, append-nil, map-append}
use Rattle.std.proofs.lemmas.List.Elements.{filter-append}
use Rattle.at_model.specs.World.{Happened}
use Rattle.schedules.specs.Words.{ended, lines_of, unless_empty}
use Rattle.reported_effects.specs.EffectLines.{IsUnbroken, Tells, happened_line, is_effect_line, with_end}

pub neither : (a b : Bool) → (a || b) ≡ false → (a ≡ false) × (b ≡ false)
neither true b e = absurd cc
neither false b e = (refl, e)

-- unbroken texts, joined

pub unbroken_both : (a b : List ℕ) → IsUnbroken a → IsUnbroken b → IsUnbroken (a ++ b)
unbroken_both [] b h k = k
unbroken_both (x ∷ xs) b h k =
    let p = neither (x == 10) (list_any (λ c. c == 10) xs) h in
    rw p.0 (unbroken_both xs b p.1 k)

-- The same as a record.
pub record IsPart (text : List ℕ) : Type 0 where
  pub whole : IsUnbroken text

pub part : (a b : List ℕ) → IsUnbroken a → IsPart b → IsPart (a ++ b)
part a b h k = record { whole = unbroken_both a b h k.whole }

-- a text of lines is cut into these again

abbrev parts_of : List ℕ → List (List ℕ)
parts_of text = slice_split (λ b. b == 10) text

first_part : (w rest : List ℕ) → IsUnbroken w → parts_of (w ++ 10 ∷ rest) ≡ w ∷ parts_of rest
first_part [] rest h = refl
first_part (x ∷ xs) rest h =
    let p = neither (x == 10) (list_any (λ c. c == 10) xs) h in
    rw p.0 (ap (onto_first x) (first_part xs rest p.1))

abbrev pub fed : List (List ℕ) → List ℕ
fed [] = []
fed (t ∷ ts) = with_end t ++ fed ts

cut_fed : (ts : List (List ℕ)) → AllByRecursion IsUnbroken ts → parts_of (fed ts) ≡ ts ++ [] ∷ []
cut_fed [] h = refl
cut_fed (t ∷ ts) h = ap parts_of (append_assoc t (10 ∷ []) (fed ts)) ∙ (first_part t (fed ts) h.0 ∙ ap (λ more. t ∷ more) (cut_fed ts h.1))

ended_back : (ts : List (List ℕ)) → ended (ts ++ [] ∷ []) ≡ ts
ended_back [] = refl
ended_back (t ∷ []) = refl
ended_back (t ∷ u ∷ more) = ap (λ ts. t ∷ ts) (ended_back (u ∷ more))

pub lines_are : (ts : List (List ℕ)) → AllByRecursion IsUnbroken ts → lines_of (fed ts) ≡ ts
lines_are ts h = ap ended (cut_fed ts h) ∙ ended_back ts

-- no line of a text has an LF

onto_unbroken : (x : ℕ) (ts : List (List ℕ)) → (x == 10) ≡ false → AllByRecursion IsUnbroken ts → AllByRecursion IsUnbroken (onto_first x ts)
onto_unbroken x [] e h = (rw e refl, tt)
onto_unbroken x (t ∷ ts) e h = (rw e h.0, h.1)

parts_unbroken : (text : List ℕ) → AllByRecursion IsUnbroken (parts_of text)
parts_unbroken [] = (refl, tt)
parts_unbroken (x ∷ xs) = by_byte (parts_unbroken xs) (x == 10) refl
  where
    by_byte : AllByRecursion IsUnbroken (parts_of xs) → (b : Bool) → (x == 10) ≡ b
        → AllByRecursion IsUnbroken (cond b ([] ∷ parts_of xs) (onto_first x (parts_of xs)))
    by_byte rest true e = (refl, rest)
    by_byte rest false e = onto_unbroken x (parts_of xs) e rest

last_unbroken : (t : List ℕ) → IsUnbroken t → AllByRecursion IsUnbroken (unless_empty t)
last_unbroken [] h = tt
last_unbroken (x ∷ xs) h = (h, tt)

ended_unbroken : (ts : List (List ℕ)) → AllByRecursion IsUnbroken ts → AllByRecursion IsUnbroken (ended ts)
ended_unbroken [] h = tt
ended_unbroken (t ∷ []) h = last_unbroken t h.0
ended_unbroken (t ∷ u ∷ more) h = (h.0, ended_unbroken (u ∷ more) h.1)

pub lines_unbroken : (text : List ℕ) → AllByRecursion IsUnbroken (lines_of text)
lines_unbroken text = ended_unbroken (parts_of text) (parts_unbroken text)

-- A text of whole lines, of which those that tell how something ended are those of what happened.
pub record Says (text : List ℕ) (all : List Happened) : Type 0 where
  pub lines : List (List ℕ)
  pub is : text ≡ fed lines
  pub whole : AllByRecursion IsUnbroken lines
  pub tells : map with_end (filter is_effect_line lines) ≡ map happened_line all

pub says_nothing : Says [] []
says_nothing = record { lines = []; is = refl; whole = tt; tells = refl }

pub fed_both : (xs ys : List (List ℕ)) → fed xs ++ fed ys ≡ fed (xs ++ ys)
fed_both [] ys = refl
fed_both (x ∷ xs) ys = append_assoc (with_end x) (fed xs) (fed ys) ∙ ap (λ t. with_end x ++ t) (fed_both xs ys)

pub whole_both : (xs ys : List (List ℕ)) → AllByRecursion IsUnbroken xs → AllByRecursion IsUnbroken ys → AllByRecursion IsUnbroken (xs ++ ys)
whole_both [] ys h k = k
whole_both (x ∷ xs) ys h k = (h.0, whole_both xs ys h.1 k)

pub says_both : (a b : List ℕ) (xs ys : List Happened) → Says a xs → Says b ys → Says (a ++ b) (xs ++ ys)
says_both a b xs ys h k = record {
  lines = h.lines ++ k.lines;
  is = (λ i. h.is i ++ k.is i) ∙ fed_both h.lines k.lines;
  whole = whole_both h.lines k.lines h.whole k.whole;
  tells =
      ap (map with_end) (filter-append is_effect_line h.lines k.lines)
      ∙ (map-append with_end (filter is_effect_line h.lines) (filter is_effect_line k.lines)
      ∙ ((λ i. h.tells i ++ k.tells i) ∙ sym (map-append happened_line xs ys)));
}

-- a text behind which nothing is told
pub says_on : (a b : List ℕ) (xs : List Happened) → Says a xs → Says b [] → Says (a ++ b) xs
says_on a b xs h k = rw (sym (append-nil xs)) (says_both a b xs [] h k)

pub says_tells : (text : List ℕ) (all : List Happened) → Says text all → Tells text all
says_tells text all h = ap (λ t. map with_end (filter is_effect_line t)) (ap lines_of h.is ∙ lines_are h.lines h.whole) ∙ h.tells

-- The end of a line: a text without LF, and the LF.
pub record IsEnd (text : List ℕ) : Type 0 where
  pub body : List ℕ
  pub is : text ≡ with_end body
  pub whole : IsUnbroken body

abbrev pub end : IsEnd (codes "\n")
end = record { body = []; is = refl; whole = refl }

abbrev pub onto : (a text : List ℕ) → IsUnbroken a → IsEnd text → IsEnd (a ++ text)
onto a text h k = record {
  body = a ++ k.body;
  is = ap (λ t. a ++ t) k.is ∙ sym (append_assoc a k.body (codes "\n"));
  whole = unbroken_both a k.body h k.whole;
}

-- a line that tells nothing, and one that tells what happened

pub quiet : (text : List ℕ) (h : IsEnd text) → is_effect_line h.body ≡ false → Says text []
quiet text h e = record {
  lines = h.body ∷ [];
  is = h.is ∙ sym (append-nil (with_end h.body));
  whole = (h.whole, tt);
  tells = rw e refl;
}

pub telling : (text : List ℕ) (x : Happened) (h : IsEnd text) → is_effect_line h.body ≡ true → happened_line x ≡ text → Says text (x ∷ [])
telling text x h e same = record {
  lines = h.body ∷ [];
  is = h.is ∙ sym (append-nil (with_end h.body));
  whole = (h.whole, tt);
  tells = rw e (ap (λ t. t ∷ []) (sym h.is ∙ sym same));
}
