-- Texts of visible characters of ASCII.
use Rattle.std.proofs.Common.{◌≡◌, ℕ, ◌+◌, ◌%◌, ◌^◌, ◌<◌, Bool, true, false, not, ◌&&◌, ◌||◌, List, [], ◌∷◌, ◌++◌, refl, ap, subst, ◌∙◌, arith, encode_utf8}
use Rattle.std.specs.Prelude.{decimal, nat_lt}
use Rattle.std.specs.List.{list_all}
use Rattle.std.proofs.lemmas.Bool.{and_from, and_left, and_parts, cond-false, ltb-true, not-true}
use Rattle.std.proofs.lemmas.Fmt.{decimal_by_steps}
use Rattle.std.proofs.lemmas.List.Folds.{list_all-append}
use Rattle.std.proofs.lemmas.Nat.{mod_below}
use Rattle.std.proofs.lemmas.Str.{encode_ascii}
use Rattle.url.proofs.SetLemmas.{all_below, checked}
use Rattle.at_base.specs.Chars.{is_xml_char}
use Rattle.soap_profile.specs.Values.{is_empty, is_white, trim_end, trim_start}
use Rattle.wire_msgs.specs.WholeMessages.{IsClean}
use Rattle.xml_roundtrip.proofs.ReadCharacters.{XmlText, is_text as text_from, text_all, text_both, text_one}

abbrev pub is_visible : ℕ → Bool
is_visible b = nat_lt 32 b && nat_lt b 127

abbrev pub AreVisible : List ℕ → Type 0
AreVisible text = list_all is_visible text ≡ true

pub visible_both : (front back : List ℕ) → AreVisible front → AreVisible back → AreVisible (front ++ back)
visible_both front back h k = list_all-append is_visible front back ∙ and_from (list_all is_visible front) (list_all is_visible back) h k

-- what each visible character passes
visible_passes : (test : ℕ → Bool) → all_below (λ b. not (is_visible b) || test b) 127 ≡ true → (b : ℕ) → is_visible b ≡ true → test b ≡ true
visible_passes test all b h =
    let low : b < 127 = ltb-true b 127 (and_parts (nat_lt 32 b) (nat_lt b 127) h).1 in
    rw h at (checked (λ n. not (is_visible n) || test n) 127 all b low)

pub all_pass : (test : ℕ → Bool) → all_below (λ b. not (is_visible b) || test b) 127 ≡ true → (text : List ℕ) → AreVisible text → list_all test text ≡ true
all_pass test all [] h = refl
all_pass test all (b ∷ bs) h =
    let (here, later) = and_parts (is_visible b) (list_all is_visible bs) h in
    and_from (test b) (list_all test bs) (visible_passes test all b here) (all_pass test all bs later)

-- what each digit passes, each number in decimal does
pub decimal_passes : (test : ℕ → Bool) → all_below (λ d. test (48 + d)) 10 ≡ true → (n : ℕ) → n < 2 ^ 64 → list_all test (decimal n) ≡ true
decimal_passes test all n small =
    decimal_by_steps (λ n ds. list_all test ds ≡ true) one
    (λ n ds least h. list_all-append test ds ((48 + n % 10) ∷ []) ∙ and_from (list_all test ds) (list_all test ((48 + n % 10) ∷ [])) h (one (n % 10) (mod_below n 10 (omega arith)))) n small
  where
    one : (d : ℕ) → d < 10 → list_all test ((48 + d) ∷ []) ≡ true
    one d below = and_from (test (48 + d)) true (checked (λ d. test (48 + d)) 10 all d below) refl

pub decimal_visible : (n : ℕ) → n < 2 ^ 64 → AreVisible (decimal n)
decimal_visible n small = decimal_passes is_visible refl n small

-- they are characters of XML, and none is white space

xml_text : (text : List ℕ) → AreVisible text → XmlText text
xml_text [] h = text_all [] refl
xml_text (b ∷ bs) h =
    let (here, later) = and_parts (is_visible b) (list_all is_visible bs) h in
    let low : b < 127 = ltb-true b 127 (and_parts (nat_lt 32 b) (nat_lt b 127) here).1 in
    subst XmlText (ap (λ (w : List ℕ). w ++ bs) (encode_ascii b (omega arith)))
    (text_both (encode_utf8 b) bs (text_one b (visible_passes is_xml_char refl b here)) (xml_text bs later))

unwhite : (b : ℕ) → is_visible b ≡ true → is_white b ≡ false
unwhite b h = not-true (is_white b) (visible_passes (λ n. not (is_white n)) refl b h)

starts : (c : ℕ) (cs : List ℕ) → is_white c ≡ false → trim_start (c ∷ cs) ≡ c ∷ cs
starts c cs h = cond-false (is_white c) (trim_start cs) (c ∷ cs) h

ends : (text : List ℕ) → AreVisible text → trim_end text ≡ text
ends [] h = refl
ends (c ∷ cs) h =
    let (here, later) = and_parts (is_visible c) (list_all is_visible cs) h in
    cond-false (is_white c && is_empty (trim_end cs)) [] (c ∷ trim_end cs) (and_left (is_white c) (is_empty (trim_end cs)) (unwhite c here))
    ∙ ap (λ (t : List ℕ). c ∷ t) (ends cs later)

pub visible_clean : (text : List ℕ) → AreVisible text → IsClean text
visible_clean [] h = record { trimmed = refl; spelled = text_from [] (xml_text [] h) }
visible_clean (c ∷ cs) h = record {
  trimmed = ap trim_end (starts c cs (unwhite c (and_parts (is_visible c) (list_all is_visible cs) h).0)) ∙ ends (c ∷ cs) h;
  spelled = text_from (c ∷ cs) (xml_text (c ∷ cs) h);
}
