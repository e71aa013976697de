-- Escaped values and texts are read back.
use Rattle.std.proofs.Common.{◌≡◌, refl, sym, subst, ap, ◌∙◌, ℕ, List, [], ◌∷◌, ◌++◌, append_assoc, Bool, true, false, not, cond, ◌&&◌, ◌||◌, nat_eq, Option, None, codes, encode_utf8, encode_utf8_all}
use Rattle.std.specs.List.{flat_map}
use Rattle.xml_profile.specs.CanonicalText.{text_byte, value_byte}
use Rattle.xml_profile.specs.Forest.{Forest}
use Rattle.xml_grammar.specs.Characters.{strip_at}
use Rattle.xml_grammar.specs.Tokens.{Value, TokenAt, spaced}
use Rattle.xml_grammar.specs.Tokens.Token.{Plain, Meant}
use Rattle.xml_grammar.specs.Namespaces.{Binding}
use Rattle.xml_grammar.specs.Spells.{Content, add_text}
use Rattle.xml_grammar.proofs.StepLaws.{add_text-add_text}
use Rattle.xml_roundtrip.proofs.Bools.{equal_numbers, turned}

-- a plain character is neither `<` nor `&`
plain_is : (a b : Bool) → a ≡ false → b ≡ false → (not a && not b) ≡ true
plain_is a b h k = rw (h, k) refl

-- Values

space_stays : (c : ℕ) → nat_eq c 9 ≡ false → nat_eq c 10 ≡ false → nat_eq c 13 ≡ false → spaced c ≡ c
space_stays c a b d = by_case (nat_eq c 32) (nat_eq c 9) (nat_eq c 10) (nat_eq c 13) refl a b d
  where
    by_case : (x y z w : Bool) → nat_eq c 32 ≡ x → y ≡ false → z ≡ false → w ≡ false → cond (x || y || z || w) 32 c ≡ c
    by_case true y z w e a b d = sym (equal_numbers c 32 e)
    by_case false y z w e a b d = rw (a, b, d) refl

module _ (c : ℕ) (more value rest : List ℕ) (k : Value 34 more value rest) where
  as_reference : (x : ℕ) (cs : List ℕ) → c ≡ x → (Value 34 cs (encode_utf8 x ++ value) rest) → Value 34 cs (encode_utf8 c ++ value) rest
  as_reference x cs e h = subst (λ v. Value 34 cs (encode_utf8 v ++ value) rest) (sym e) h

  value_char : Value 34 (value_byte c ++ more) (encode_utf8 c ++ value) rest
  value_char = by_case (nat_eq c 34) (nat_eq c 9) (nat_eq c 10) (nat_eq c 38) (nat_eq c 60) (nat_eq c 62) (nat_eq c 13) refl refl refl refl refl refl refl
    where
      by_case : (b1 b2 b3 b4 b5 b6 b7 : Bool) → nat_eq c 34 ≡ b1 → nat_eq c 9 ≡ b2 → nat_eq c 10 ≡ b3 → nat_eq c 38 ≡ b4 → nat_eq c 60 ≡ b5 → nat_eq c 62 ≡ b6 → nat_eq c 13 ≡ b7
          → Value 34 (cond b1 (codes "&quot;") (cond b2 (codes "&#9;") (cond b3 (codes "&#10;") (cond b4 (codes "&amp;") (cond b5 (codes "&lt;") (cond b6 (codes "&gt;") (cond b7 (codes "&#13;") (c ∷ []))))))) ++ more)
          (encode_utf8 c ++ value) rest
      by_case true b2 b3 b4 b5 b6 b7 e1 e2 e3 e4 e5 e6 e7 = as_reference 34 _ (equal_numbers c 34 e1) (Value.reference 34 refl refl k refl)
      by_case false true b3 b4 b5 b6 b7 e1 e2 e3 e4 e5 e6 e7 = as_reference 9 _ (equal_numbers c 9 e2) (Value.reference 9 refl refl k refl)
      by_case false false true b4 b5 b6 b7 e1 e2 e3 e4 e5 e6 e7 = as_reference 10 _ (equal_numbers c 10 e3) (Value.reference 10 refl refl k refl)
      by_case false false false true b5 b6 b7 e1 e2 e3 e4 e5 e6 e7 = as_reference 38 _ (equal_numbers c 38 e4) (Value.reference 38 refl refl k refl)
      by_case false false false false true b6 b7 e1 e2 e3 e4 e5 e6 e7 = as_reference 60 _ (equal_numbers c 60 e5) (Value.reference 60 refl refl k refl)
      by_case false false false false false true b7 e1 e2 e3 e4 e5 e6 e7 = as_reference 62 _ (equal_numbers c 62 e6) (Value.reference 62 refl refl k refl)
      by_case false false false false false false true e1 e2 e3 e4 e5 e6 e7 = as_reference 13 _ (equal_numbers c 13 e7) (Value.reference 13 refl refl k refl)
      by_case false false false false false false false e1 e2 e3 e4 e5 e6 e7 =
          Value.plain c refl e1 (plain_is (nat_eq c 60) (nat_eq c 38) e5 e4) k (ap (λ v. encode_utf8 v ++ value) (sym (space_stays c e2 e3 e7)))

-- an escaped value, up to its closing quote
pub value_reads : (cs rest : List ℕ) → Value 34 (flat_map value_byte cs ++ 34 ∷ rest) (encode_utf8_all cs) rest
value_reads [] rest = Value.close refl refl
value_reads (c ∷ cs) rest =
    subst (λ x. Value 34 x (encode_utf8 c ++ encode_utf8_all cs) rest) (sym (append_assoc (value_byte c) (flat_map value_byte cs) (34 ∷ rest)))
    (value_char c (flat_map value_byte cs ++ 34 ∷ rest) (encode_utf8_all cs) rest (value_reads cs rest))

-- Texts

-- what begins with neither of two characters
no_first : (w c : ℕ) (ws more : List ℕ) → nat_eq w c ≡ false → strip_at (w ∷ ws) (c ∷ more) ≡ None
no_first w c ws more h = ap (λ b. cond b (strip_at ws more) None) h

-- an escaped text doesn't begin with `>`
no_end : (cs more : List ℕ) → strip_at (codes ">") (flat_map text_byte cs ++ 60 ∷ more) ≡ None
no_end [] more = refl
no_end (c ∷ cs) more = ap (strip_at (codes ">")) (append_assoc (text_byte c) (flat_map text_byte cs) (60 ∷ more))
    ∙ by_case (nat_eq c 38) (nat_eq c 60) (nat_eq c 62) (nat_eq c 13) refl (flat_map text_byte cs ++ 60 ∷ more)
  where
    by_case : (a b d e : Bool) → nat_eq c 62 ≡ d → (rest : List ℕ) → strip_at (codes ">") (cond a (codes "&amp;") (cond b (codes "&lt;") (cond d (codes "&gt;") (cond e (codes "&#13;") (c ∷ [])))) ++ rest) ≡ None
    by_case true b d e i rest = refl
    by_case false true d e i rest = refl
    by_case false false true e i rest = refl
    by_case false false false true i rest = refl
    by_case false false false false i rest = no_first 62 c [] rest (turned c 62 i)

-- nor with `]>`
no_section : (cs more : List ℕ) → strip_at (codes "]>") (flat_map text_byte cs ++ 60 ∷ more) ≡ None
no_section [] more = refl
no_section (c ∷ cs) more = ap (strip_at (codes "]>")) (append_assoc (text_byte c) (flat_map text_byte cs) (60 ∷ more))
    ∙ by_case (nat_eq c 38) (nat_eq c 60) (nat_eq c 62) (nat_eq c 13) (nat_eq 93 c)
  where
    by_case : (a b d e f : Bool) → strip_at (codes "]>") (cond a (codes "&amp;") (cond b (codes "&lt;") (cond d (codes "&gt;") (cond e (codes "&#13;") (c ∷ [])))) ++ (flat_map text_byte cs ++ 60 ∷ more)) ≡ None
    by_case true b d e f = refl
    by_case false true d e f = refl
    by_case false false true e f = refl
    by_case false false false true f = refl
    by_case false false false false f = ap (λ o. cond (nat_eq 93 c) o None) (no_end cs more) ∙ either (nat_eq 93 c)
      where
        either : (b : Bool) → cond {A = Option (List ℕ)} b None None ≡ None
        either true = refl
        either false = refl

-- nor, behind any character, with `]]>`
no_section_end : (c : ℕ) (cs more : List ℕ) → strip_at (codes "]]>") (c ∷ (flat_map text_byte cs ++ 60 ∷ more)) ≡ None
no_section_end c cs more = ap (λ o. cond (nat_eq 93 c) o None) (no_section cs more) ∙ either (nat_eq 93 c)
  where
    either : (b : Bool) → cond {A = Option (List ℕ)} b None None ≡ None
    either true = refl
    either false = refl

module _ (bs : List Binding) (c : ℕ) (more rest : List ℕ) (ns : Forest) (k : Content bs more ns rest) (quiet : strip_at (codes "]]>") (c ∷ more) ≡ None) where
  meant_as : (x : ℕ) (cs : List ℕ) → c ≡ x → Content bs cs (add_text (encode_utf8 x) ns) rest → Content bs cs (add_text (encode_utf8 c) ns) rest
  meant_as x cs e h = subst (λ v. Content bs cs (add_text (encode_utf8 v) ns) rest) (sym e) h

  text_char : Content bs (text_byte c ++ more) (add_text (encode_utf8 c) ns) rest
  text_char = by_case (nat_eq c 38) (nat_eq c 60) (nat_eq c 62) (nat_eq c 13) refl refl refl refl
    where
      by_case : (b1 b2 b3 b4 : Bool) → nat_eq c 38 ≡ b1 → nat_eq c 60 ≡ b2 → nat_eq c 62 ≡ b3 → nat_eq c 13 ≡ b4
          → Content bs (cond b1 (codes "&amp;") (cond b2 (codes "&lt;") (cond b3 (codes "&gt;") (cond b4 (codes "&#13;") (c ∷ [])))) ++ more) (add_text (encode_utf8 c) ns) rest
      by_case true b2 b3 b4 e1 e2 e3 e4 = meant_as 38 _ (equal_numbers c 38 e1) (Content.text (Meant (encode_utf8 38)) (encode_utf8 38) (TokenAt.reference 38 refl refl) refl k refl)
      by_case false true b3 b4 e1 e2 e3 e4 = meant_as 60 _ (equal_numbers c 60 e2) (Content.text (Meant (encode_utf8 60)) (encode_utf8 60) (TokenAt.reference 60 refl refl) refl k refl)
      by_case false false true b4 e1 e2 e3 e4 = meant_as 62 _ (equal_numbers c 62 e3) (Content.text (Meant (encode_utf8 62)) (encode_utf8 62) (TokenAt.reference 62 refl refl) refl k refl)
      by_case false false false true e1 e2 e3 e4 = meant_as 13 _ (equal_numbers c 13 e4) (Content.text (Meant (encode_utf8 13)) (encode_utf8 13) (TokenAt.reference 13 refl refl) refl k refl)
      by_case false false false false e1 e2 e3 e4 =
          Content.text (Plain c) (encode_utf8 c) (TokenAt.plain c refl (plain_is (nat_eq c 60) (nat_eq c 38) e2 e1) quiet refl) refl k refl

-- an escaped text in front of markup
pub text_reads : (bs : List Binding) (cs more rest : List ℕ) (ns : Forest) → Content bs (60 ∷ more) ns rest → Content bs (flat_map text_byte cs ++ 60 ∷ more) (add_text (encode_utf8_all cs) ns) rest
text_reads bs [] more rest ns k = k
text_reads bs (c ∷ cs) more rest ns k =
    let h = text_char bs c (flat_map text_byte cs ++ 60 ∷ more) rest (add_text (encode_utf8_all cs) ns) (text_reads bs cs more rest ns k) (no_section_end c cs more) in
    subst (λ x. Content bs x (add_text (encode_utf8 c ++ encode_utf8_all cs) ns) rest) (sym (append_assoc (text_byte c) (flat_map text_byte cs) (60 ∷ more)))
    (subst (λ v. Content bs (text_byte c ++ (flat_map text_byte cs ++ 60 ∷ more)) v rest) (add_text-add_text (encode_utf8 c) (encode_utf8_all cs) ns) h)
