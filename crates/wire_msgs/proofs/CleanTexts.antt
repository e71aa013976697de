-- Texts of a document stay so when white space goes from their ends.
use Rattle.std.proofs.Common.{◌≡◌, refl, sym, subst, ap, ◌∙◌, arith, ℕ, ◌<◌, ◌≤◌, List, [], ◌∷◌, ◌++◌, length, Bool, true, false, cond, ◌&&◌, not, nat_le, ltb, encode_utf8, encode_utf8_all}
use Rattle.std.specs.List.{list_all}
use Rattle.std.proofs.lemmas.Str.{encode_ascii, length-le-encodes}
use Rattle.std.proofs.lemmas.Bool.{leb-true, ltb-true, ltb-false}
use Rattle.at_base.specs.Chars.{is_xml_char}
use Rattle.xml_profile.specs.SpellableTrees.{is_content, is_empty as is_nothing, is_tag, is_text, texts_apart}
use Rattle.xml_profile.specs.Forest.{Forest}
use Rattle.xml_profile.specs.Forest.Forest.{End, Text_then, Element_then}
use Rattle.xml_roundtrip.proofs.Bools.{and_true, higher}
use Rattle.xml_roundtrip.proofs.ReadCharacters.{Fine, XmlText, is_text as text_from, text_of, text_all, text_both, text_one}
use Rattle.xml_roundtrip.proofs.CanonicalBytes.{high_bytes}
use Rattle.soap_profile.specs.Values.{direct_text, is_empty, is_white, trim, trim_end, trim_start}
use Rattle.addressing.specs.OutgoingHeaders.{IsTrimmed}
use Rattle.soap_profile.specs.Faults.{has_colon, local_part}
use Rattle.wire_msgs.specs.WholeMessages.{IsClean}
use Rattle.soap_profile.proofs.Colons.{local_goes, local_stops}

white_low : (b : ℕ) → is_white b ≡ true → b < 128
white_low b w = grind (arith)

high_word : (b : ℕ) → 128 ≤ b → is_white b ≡ false
high_word b h = grind (arith)

-- what stands behind a byte of ASCII

empty_text : XmlText []
empty_text = text_all [] refl

same_rest : (a b : ℕ) (x y : List ℕ) → a ∷ x ≡ b ∷ y → x ≡ y
same_rest a b x y e = cc

same_first : (a b : ℕ) (x y : List ℕ) → a ∷ x ≡ b ∷ y → a ≡ b
same_first a b x y e = cc

not_high : (c : List ℕ) (rest : List ℕ) (b : ℕ) (bs : List ℕ) → 1 ≤ length (c ++ []) → list_all (nat_le 128) c ≡ true → b < 128 → c ++ rest ≡ b ∷ bs → ⊥
not_high [] rest b bs n h l e = absurd (omega (arith, n))
not_high (d ∷ ds) rest b bs n h l e =
    let same : d ≡ b = same_first d b (ds ++ rest) bs e in
    let high : 128 ≤ d = leb-true 128 d (and_true (nat_le 128 d) (list_all (nat_le 128) ds) h).0 in
    absurd (omega (arith, same, high, l))

pub behind_low : (b : ℕ) (bs : List ℕ) → b < 128 → XmlText (b ∷ bs) → XmlText bs
behind_low b bs l t = by_chars t.characters t.encoded t.fine
  where
    by_size : (c : ℕ) (cs : List ℕ) (low : Bool) → ltb c 128 ≡ low → encode_utf8 c ++ encode_utf8_all cs ≡ b ∷ bs → Fine cs → XmlText bs
    by_size c cs true e same f =
        let one : encode_utf8 c ≡ c ∷ [] = encode_ascii c (ltb-true c 128 e) in
        let whole : c ∷ encode_utf8_all cs ≡ b ∷ bs = sym (ap (λ (x : List ℕ). x ++ encode_utf8_all cs) one) ∙ same in
        record { characters = cs; encoded = same_rest c b (encode_utf8_all cs) bs whole; fine = f }
    by_size c cs false e same f =
        absurd (not_high (encode_utf8 c) (encode_utf8_all cs) b bs (length-le-encodes (c ∷ [])) (high_bytes c (ltb-false c 128 e)) l same)

    by_chars : (cs : List ℕ) → encode_utf8_all cs ≡ b ∷ bs → Fine cs → XmlText bs
    by_chars [] e f = absurd cc
    by_chars (c ∷ cs) e f = by_size c cs (ltb c 128) refl e (and_true (is_xml_char c) (list_all is_xml_char cs) f).1

start_text : (bytes : List ℕ) → XmlText bytes → XmlText (trim_start bytes)
start_text [] t = t
start_text (b ∷ bs) t = by_white (is_white b) refl (start_text bs)
  where
    by_white : (w : Bool) → is_white b ≡ w → (XmlText bs → XmlText (trim_start bs)) → XmlText (cond w (trim_start bs) (b ∷ bs))
    by_white true e go = go (behind_low b bs (white_low b e) t)
    by_white false e go = t

-- what stands before

high_stays : (bs rest : List ℕ) → list_all (nat_le 128) bs ≡ true → trim_end (bs ++ rest) ≡ bs ++ trim_end rest
high_stays [] rest h = refl
high_stays (b ∷ bs) rest h =
    let parts = and_true (nat_le 128 b) (list_all (nat_le 128) bs) h in
    rw (high_word b (leb-true 128 b parts.0), high_stays bs rest parts.1) refl

end_text : (cs : List ℕ) → Fine cs → XmlText (trim_end (encode_utf8_all cs))
end_text [] f = empty_text
end_text (c ∷ cs) f =
    let parts = and_true (is_xml_char c) (list_all is_xml_char cs) f in
    by_size (ltb c 128) refl parts.0 (end_text cs parts.1)
  where
    rest : List ℕ
    rest = encode_utf8_all cs

    one_more : is_xml_char c ≡ true → XmlText (trim_end rest) → XmlText (encode_utf8 c ++ trim_end rest)
    one_more x t = text_both (encode_utf8 c) (trim_end rest) (text_one c x) t

    by_end : (b : Bool) → XmlText (c ∷ trim_end rest) → XmlText (cond b [] (c ∷ trim_end rest))
    by_end true t = empty_text
    by_end false t = t

    by_size : (low : Bool) → ltb c 128 ≡ low → is_xml_char c ≡ true → XmlText (trim_end rest) → XmlText (trim_end (encode_utf8 c ++ rest))
    by_size true e x t =
        let one : encode_utf8 c ≡ c ∷ [] = encode_ascii c (ltb-true c 128 e) in
        let more : XmlText (c ∷ trim_end rest) = subst (λ (w : List ℕ). XmlText (w ++ trim_end rest)) one (one_more x t) in
        subst (λ (w : List ℕ). XmlText (trim_end (w ++ rest))) (sym one) (by_end (is_white c && is_empty (trim_end rest)) more)
    by_size false e x t = subst XmlText (sym (high_stays (encode_utf8 c) rest (high_bytes c (ltb-false c 128 e)))) (one_more x t)

ended : (bytes : List ℕ) → XmlText bytes → XmlText (trim_end bytes)
ended bytes t = subst (λ (w : List ℕ). XmlText (trim_end w)) t.encoded (end_text t.characters t.fine)

-- trimmed once for all

end_again : (bytes : List ℕ) → trim_end (trim_end bytes) ≡ trim_end bytes
end_again [] = refl
end_again (b ∷ bs) = by_end (is_white b && is_empty (trim_end bs)) refl (end_again bs)
  where
    by_end : (k : Bool) → (is_white b && is_empty (trim_end bs)) ≡ k → trim_end (trim_end bs) ≡ trim_end bs
        → trim_end (cond k [] (b ∷ trim_end bs)) ≡ cond k [] (b ∷ trim_end bs)
    by_end true e h = refl
    by_end false e h = rw (h, e) refl

start_stays : (bytes : List ℕ) → trim_start (trim_end (trim_start bytes)) ≡ trim_end (trim_start bytes)
start_stays [] = refl
start_stays (b ∷ bs) = by_white (is_white b) refl (start_stays bs)
  where
    by_white : (w : Bool) → is_white b ≡ w → trim_start (trim_end (trim_start bs)) ≡ trim_end (trim_start bs)
        → trim_start (trim_end (cond w (trim_start bs) (b ∷ bs))) ≡ trim_end (cond w (trim_start bs) (b ∷ bs))
    by_white true e h = h
    by_white false e h = rw e (rw e refl)

trimmed : (bytes : List ℕ) → IsTrimmed (trim bytes)
trimmed bytes = ap trim_end (start_stays bytes) ∙ end_again (trim_start bytes)

pub trim_clean : (bytes : List ℕ) → XmlText bytes → IsClean (trim bytes)
trim_clean bytes t = record { trimmed = trimmed bytes; spelled = text_from (trim bytes) (ended (trim_start bytes) (start_text bytes t)) }

-- what stands behind the last colon

high_without : (bs rest : List ℕ) → list_all (nat_le 128) bs ≡ true → has_colon (bs ++ rest) ≡ has_colon rest
high_without [] rest h = refl
high_without (b ∷ bs) rest h =
    let parts = and_true (nat_le 128 b) (list_all (nat_le 128) bs) h in
    rw (higher 58 b (omega arith) (leb-true 128 b parts.0), high_without bs rest parts.1) refl

high_goes : (bs rest : List ℕ) → list_all (nat_le 128) bs ≡ true → has_colon (bs ++ rest) ≡ true → local_part (bs ++ rest) ≡ local_part rest
high_goes [] rest h e = refl
high_goes (b ∷ bs) rest h e =
    let parts = and_true (nat_le 128 b) (list_all (nat_le 128) bs) h in
    let more : has_colon (bs ++ rest) ≡ true = high_without bs rest parts.1 ∙ (sym (high_without (b ∷ bs) rest h) ∙ e) in
    local_goes b (bs ++ rest) e ∙ high_goes bs rest parts.1 more

local_text : (cs : List ℕ) → Fine cs → XmlText (local_part (encode_utf8_all cs))
local_text [] f = empty_text
local_text (c ∷ cs) f = by_colon (has_colon (encode_utf8 c ++ encode_utf8_all cs)) refl (local_text cs (and_true (is_xml_char c) (list_all is_xml_char cs) f).1)
  where
    rest : List ℕ
    rest = encode_utf8_all cs

    by_size : (low : Bool) → ltb c 128 ≡ low → has_colon (encode_utf8 c ++ rest) ≡ true → XmlText (local_part rest) → XmlText (local_part (encode_utf8 c ++ rest))
    by_size true e h t =
        let one : encode_utf8 c ≡ c ∷ [] = encode_ascii c (ltb-true c 128 e) in
        let goes : local_part (c ∷ rest) ≡ local_part rest = local_goes c rest (subst (λ (w : List ℕ). has_colon (w ++ rest) ≡ true) one h) in
        subst (λ (w : List ℕ). XmlText (local_part (w ++ rest))) (sym one) (subst XmlText (sym goes) t)
    by_size false e h t = subst XmlText (sym (high_goes (encode_utf8 c) rest (high_bytes c (ltb-false c 128 e)) h)) t

    by_colon : (b : Bool) → has_colon (encode_utf8 c ++ rest) ≡ b → XmlText (local_part rest) → XmlText (local_part (encode_utf8 c ++ rest))
    by_colon true e t = by_size (ltb c 128) refl e t
    by_colon false e t = subst XmlText (sym (local_stops (encode_utf8 c ++ rest) e)) (text_all (c ∷ cs) f)

pub local_spelled : (code : List ℕ) → IsClean code → is_text (local_part code) ≡ true
local_spelled code c =
    let t : XmlText code = text_of code c.spelled in
    text_from (local_part code) (subst (λ (w : List ℕ). XmlText (local_part w)) t.encoded (local_text t.characters t.fine))

-- the texts in an element

pub direct_fine : (f : Forest) → is_content f ≡ true → XmlText (direct_text f)
direct_fine End h = empty_text
direct_fine (Text_then t r) h =
    let (first, rest) = and_true (not (is_nothing t) && is_text t) (is_content r) h in
    text_both t (direct_text r) (text_of t (and_true (not (is_nothing t)) (is_text t) first).1) (direct_fine r rest)
direct_fine (Element_then n a c r) h =
    let (tag, rest) = and_true (is_tag n a) (texts_apart c && (is_content c && is_content r)) h in
    let (separate, contents) = and_true (texts_apart c) (is_content c && is_content r) rest in
    direct_fine r (and_true (is_content c) (is_content r) contents).1
