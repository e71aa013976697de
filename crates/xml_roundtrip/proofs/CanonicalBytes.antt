-- The canonical text is the UTF-8 of its characters, which are those of a document and no CR.
use lib.Utf8.{encode}
use Rattle.std.proofs.Common.{◌≡◌, refl, sym, ap, ap₂, ◌∙◌, arith, ℕ, ◌+◌, ◌/◌, ◌%◌, ◌≤◌, ◌<◌, List, [], ◌∷◌, ◌++◌, append-nil, Bool, true, false, not, cond, ◌&&◌, nat_eq, nat_le, nat_lt, ltb, codes, chars, encode_utf8, encode_utf8_all, IsUtf8}
use Rattle.std.specs.List.{list_all, flat_map}
use Rattle.std.proofs.lemmas.Str.{encodes-append, encode_ascii, encodes-chars}
use Rattle.std.proofs.lemmas.List.Concat.{flat_map-append}
use Rattle.at_base.specs.Chars.{is_xml_char}
use Rattle.xml_profile.specs.CanonicalText.{text_byte, value_byte, text_text, value_text}
use Rattle.std.proofs.lemmas.Bool.{le-leb, leb-true, ltb-true, ltb-false}
use Rattle.xml_roundtrip.proofs.Bools.{and_true, both_true, not_false, all_both, higher}

abbrev pub is_written : ℕ → Bool
is_written c = is_xml_char c && not (nat_eq c 13)

pub record Written (bytes cs : List ℕ) : Type 0 where
  pub encoded : encode_utf8_all cs ≡ bytes
  pub fine : list_all is_written cs ≡ true

pub written_both : (a b x y : List ℕ) → Written a x → Written b y → Written (a ++ b) (x ++ y)
written_both a b x y h k = record { encoded = encodes-append x y ∙ ap₂ (λ u v. u ++ v) h.encoded k.encoded; fine = all_both is_written x y h.fine k.fine }

-- Escapes

high_byte : (b : ℕ) → 128 ≤ b → value_byte b ≡ b ∷ []
high_byte b h = rw (higher 34 b (omega arith) h, higher 9 b (omega arith) h, higher 10 b (omega arith) h, higher 38 b (omega arith) h, higher 60 b (omega arith) h, higher 62 b (omega arith) h, higher 13 b (omega arith) h) refl

high_byte_of_text : (b : ℕ) → 128 ≤ b → text_byte b ≡ b ∷ []
high_byte_of_text b h = rw (higher 38 b (omega arith) h, higher 60 b (omega arith) h, higher 62 b (omega arith) h, higher 13 b (omega arith) h) refl

next_high : (c : ℕ) → nat_le 128 (128 + c % 64) ≡ true
next_high c = le-leb 128 (128 + c % 64) (omega arith)

pub high_bytes : (c : ℕ) → 128 ≤ c → list_all (nat_le 128) (encode_utf8 c) ≡ true
unfolding encode
high_bytes c h = by_size (ltb c 128) (ltb c 2048) (ltb c 65536) refl
  where
    by_size : (x y z : Bool) → ltb c 128 ≡ x → list_all (nat_le 128) (cond x (c ∷ []) (cond y ((192 + c / 64) ∷ (128 + c % 64) ∷ [])
        (cond z ((224 + c / 4096) ∷ (128 + c / 64 % 64) ∷ (128 + c % 64) ∷ []) ((240 + c / 262144) ∷ (128 + c / 4096 % 64) ∷ (128 + c / 64 % 64) ∷ (128 + c % 64) ∷ [])))) ≡ true
    by_size true y z e = let l = ltb-true c 128 e in absurd (omega arith)
    by_size false true z e = rw (le-leb 128 (192 + c / 64) (omega arith), next_high c) refl
    by_size false false true e = rw (le-leb 128 (224 + c / 4096) (omega arith), next_high (c / 64), next_high c) refl
    by_size false false false e = rw (le-leb 128 (240 + c / 262144) (omega arith), next_high (c / 4096), next_high (c / 64), next_high c) refl

one_low : (c : ℕ) → c < 128 → encode_utf8_all (c ∷ []) ≡ c ∷ []
one_low c h = ap (λ v. v ++ []) (encode_ascii c h)

-- characters are escaped as their bytes are
module _ (escape : ℕ → List ℕ) (low : (c : ℕ) → c < 128 → encode_utf8_all (escape c) ≡ escape c) (high : (b : ℕ) → 128 ≤ b → escape b ≡ b ∷ []) where
  all_high : (bs : List ℕ) → list_all (nat_le 128) bs ≡ true → flat_map escape bs ≡ bs
  all_high [] h = refl
  all_high (b ∷ bs) h = let (l, k) = and_true (nat_le 128 b) (list_all (nat_le 128) bs) h in ap₂ (λ u v. u ++ v) (high b (leb-true 128 b l)) (all_high bs k)

  one_escaped : (c : ℕ) → encode_utf8_all (escape c) ≡ flat_map escape (encode_utf8 c)
  one_escaped c = by_size (ltb c 128) refl
    where
      by_size : (b : Bool) → ltb c 128 ≡ b → encode_utf8_all (escape c) ≡ flat_map escape (encode_utf8 c)
      by_size true e =
          let l = ltb-true c 128 e in
          low c l ∙ sym (ap (flat_map escape) (encode_ascii c l) ∙ append-nil (escape c))
      by_size false e =
          let l = ltb-false c 128 e in
          ap encode_utf8_all (high c l) ∙ (append-nil (encode_utf8 c) ∙ sym (all_high (encode_utf8 c) (high_bytes c l)))

  pub escaped : (cs : List ℕ) → encode_utf8_all (flat_map escape cs) ≡ flat_map escape (encode_utf8_all cs)
  escaped [] = refl
  escaped (c ∷ cs) =
      encodes-append (escape c) (flat_map escape cs) ∙ (ap₂ (λ u v. u ++ v) (one_escaped c) (escaped cs) ∙ sym (flat_map-append escape (encode_utf8 c) (encode_utf8_all cs)))

  pub written_escaped : ((c : ℕ) → is_xml_char c ≡ true → list_all is_written (escape c) ≡ true) → (bytes : List ℕ) → IsUtf8 bytes → list_all is_xml_char (chars bytes) ≡ true
      → Written (flat_map escape bytes) (flat_map escape (chars bytes))
  written_escaped fine bytes u x = record { encoded = escaped (chars bytes) ∙ ap (flat_map escape) (encodes-chars bytes u); fine = all_fine (chars bytes) x }
    where
      all_fine : (cs : List ℕ) → list_all is_xml_char cs ≡ true → list_all is_written (flat_map escape cs) ≡ true
      all_fine [] h = refl
      all_fine (c ∷ cs) h = let (a, b) = and_true (is_xml_char c) (list_all is_xml_char cs) h in all_both is_written (escape c) (flat_map escape cs) (fine c a) (all_fine cs b)

text_low : (c : ℕ) → c < 128 → encode_utf8_all (text_byte c) ≡ text_byte c
unfolding encode
text_low c h = by_case (nat_eq c 38) (nat_eq c 60) (nat_eq c 62) (nat_eq c 13)
  where
    by_case : (a b d e : Bool) → encode_utf8_all (cond a (codes "&amp;") (cond b (codes "&lt;") (cond d (codes "&gt;") (cond e (codes "&#13;") (c ∷ []))))) ≡ cond a (codes "&amp;") (cond b (codes "&lt;") (cond d (codes "&gt;") (cond e (codes "&#13;") (c ∷ []))))
    by_case true b d e = refl
    by_case false true d e = refl
    by_case false false true e = refl
    by_case false false false true = refl
    by_case false false false false = one_low c h

value_low : (c : ℕ) → c < 128 → encode_utf8_all (value_byte c) ≡ value_byte c
unfolding encode
value_low c h = by_case (nat_eq c 34) (nat_eq c 9) (nat_eq c 10)
  where
    by_case : (a b d : Bool) → encode_utf8_all (cond a (codes "&quot;") (cond b (codes "&#9;") (cond d (codes "&#10;") (text_byte c)))) ≡ cond a (codes "&quot;") (cond b (codes "&#9;") (cond d (codes "&#10;") (text_byte c)))
    by_case true b d = refl
    by_case false true d = refl
    by_case false false true = refl
    by_case false false false = text_low c h

text_fine : (c : ℕ) → is_xml_char c ≡ true → list_all is_written (text_byte c) ≡ true
text_fine c h = by_case (nat_eq c 38) (nat_eq c 60) (nat_eq c 62) (nat_eq c 13) refl
  where
    by_case : (a b d e : Bool) → nat_eq c 13 ≡ e → list_all is_written (cond a (codes "&amp;") (cond b (codes "&lt;") (cond d (codes "&gt;") (cond e (codes "&#13;") (c ∷ []))))) ≡ true
    by_case true b d e i = refl
    by_case false true d e i = refl
    by_case false false true e i = refl
    by_case false false false true i = refl
    by_case false false false false i = both_true (is_written c) true (both_true (is_xml_char c) (not (nat_eq c 13)) h (not_false (nat_eq c 13) i)) refl

value_fine : (c : ℕ) → is_xml_char c ≡ true → list_all is_written (value_byte c) ≡ true
value_fine c h = by_case (nat_eq c 34) (nat_eq c 9) (nat_eq c 10)
  where
    by_case : (a b d : Bool) → list_all is_written (cond a (codes "&quot;") (cond b (codes "&#9;") (cond d (codes "&#10;") (text_byte c)))) ≡ true
    by_case true b d = refl
    by_case false true d = refl
    by_case false false true = refl
    by_case false false false = text_fine c h

pub written_text : (t : List ℕ) → IsUtf8 t → list_all is_xml_char (chars t) ≡ true → Written (text_text t) (flat_map text_byte (chars t))
written_text t u x = written_escaped text_byte text_low high_byte_of_text text_fine t u x

pub written_value : (t : List ℕ) → IsUtf8 t → list_all is_xml_char (chars t) ≡ true → Written (value_text t) (flat_map value_byte (chars t))
written_value t u x = written_escaped value_byte value_low high_byte value_fine t u x

-- ASCII

abbrev pub is_low : ℕ → Bool
is_low c = nat_lt c 128 && is_written c

pub written_low : (w : List ℕ) → list_all is_low w ≡ true → Written w w
written_low [] h = record { encoded = refl; fine = refl }
written_low (c ∷ w) h =
    let (a, b) = and_true (is_low c) (list_all is_low w) h in
    let (l, f) = and_true (nat_lt c 128) (is_written c) a in
    let k = written_low w b in
    record { encoded = ap₂ (λ u v. u ++ v) (encode_ascii c (ltb-true c 128 l)) k.encoded; fine = both_true (is_written c) (list_all is_written w) f k.fine }
