-- The content of an element that is written is read back.
use Rattle.std.proofs.Common.{◌≡◌, refl, sym, subst, ap, ◌∙◌, ℕ, List, [], ◌∷◌, ◌++◌, append_assoc, map, true, false, not, ◌&&◌, chars}
use Rattle.std.specs.List.{list_all, flat_map}
use Rattle.std.specs.Str.{is_utf8}
use Rattle.std.proofs.lemmas.Str.{IsUtf8-from_is_utf8, encodes-chars}
use Rattle.at_base.specs.Chars.{is_xml_char}
use Rattle.xml_profile.specs.declared.name.QName.{QName}
use Rattle.xml_profile.specs.declared.name.Attribute.{Attribute}
use Rattle.xml_profile.specs.Forest.{Forest}
use Rattle.xml_profile.specs.Forest.Forest.{End as Nothing, Text_then, Element_then}
use Rattle.xml_profile.specs.CanonicalText.{text_byte, is_end, spaces_at, spaces_in}
use Rattle.xml_profile.specs.SpellableTrees as spellable
use Rattle.xml_grammar.specs.Spells.{add_text, Content}
use Rattle.xml_roundtrip.proofs.Bools.{and_true, all_parts}
use Rattle.xml_roundtrip.proofs.CanonicalCharacters.{tag_chars, tag_of, name_chars, ending, content_chars}
use Rattle.xml_roundtrip.proofs.Pieces.{text_reads}
use Rattle.xml_roundtrip.proofs.Tags.{tag_reads, end_reads}
use Rattle.xml_roundtrip.proofs.Bindings.{bindings, Declares}
use Rattle.xml_roundtrip.proofs.Meanings.{is_known, parts_of, name_stands_apart, IsTag, meaning, inner_means, inner_pairs}

pub is_tag : (numbered declared : List (List ℕ)) (n : QName) (ats : List Attribute) → spellable.is_tag n ats ≡ true → list_all (is_known numbered declared) (spaces_at n ats) ≡ true → IsTag numbered declared n ats
is_tag numbered declared n ats h k =
    let (a, b) = and_true (spellable.is_name n) (list_all spellable.is_attribute ats && spellable.are_apart ats) h in
    let (c, d) = and_true (list_all spellable.is_attribute ats) (spellable.are_apart ats) b in
    let (e, f) = and_true (is_known numbered declared n.space) (list_all (is_known numbered declared) (map (λ a. a.name.space) ats)) k in
    record { name = a; attributes = c; separate = d; known = e; all_known = f }

-- a text that isn't empty, in front of no other text
stands_alone : (t : List ℕ) (r : Forest) → not (spellable.is_empty t) ≡ true → not (spellable.begins_with_text r) ≡ true → Text_then t r ≡ add_text t r
stands_alone [] r h k = cc
stands_alone (c ∷ t) Nothing h k = refl
stands_alone (c ∷ t) (Text_then u r) h k = cc
stands_alone (c ∷ t) (Element_then n a c' r) h k = refl

pub record Markup (cs : List ℕ) : Type 0 where
  pub tail : List ℕ
  pub is : cs ≡ 60 ∷ tail

begins_markup : (numbered : List (List ℕ)) (r : Forest) (more : List ℕ) → not (spellable.begins_with_text r) ≡ true → Markup (content_chars numbered r ++ 60 ∷ more)
begins_markup numbered Nothing more h = record { tail = more; is = refl }
begins_markup numbered (Text_then t r) more h = cc
begins_markup numbered (Element_then n a c r) more h = record { tail = _; is = refl }

module _ (numbered declared : List (List ℕ)) (d : Declares numbered declared) where
  pub content_reads : (f : Forest) → spellable.texts_apart f ≡ true → spellable.is_content f ≡ true → list_all (is_known numbered declared) (spaces_in f) ≡ true → (more : List ℕ)
      → Content (bindings numbered declared) (content_chars numbered f ++ 60 ∷ more) f (60 ∷ more)
  content_reads Nothing h k l more = Content.stop refl refl
  content_reads (Text_then t r) h k l more =
      let (a, b) = and_true (not (spellable.begins_with_text r)) (spellable.texts_apart r) h in
      let (e, f) = and_true (not (spellable.is_empty t) && spellable.is_text t) (spellable.is_content r) k in
      let (g, i) = and_true (not (spellable.is_empty t)) (spellable.is_text t) e in
      let (u, x) = and_true (is_utf8 t) (list_all is_xml_char (chars t)) i in
      let m = begins_markup numbered r more a in
      let rest = content_reads r b f l more in
      let read = text_reads (bindings numbered declared) (chars t) m.tail (60 ∷ more) r (subst (λ v. Content (bindings numbered declared) v r (60 ∷ more)) m.is rest) in
      let back = encodes-chars t (IsUtf8-from_is_utf8 t u) in
      subst (λ v. Content (bindings numbered declared) v (Text_then t r) (60 ∷ more)) (ap (λ v. flat_map text_byte (chars t) ++ v) (sym m.is) ∙ sym (append_assoc (flat_map text_byte (chars t)) (content_chars numbered r) (60 ∷ more)))
      (subst (λ v. Content (bindings numbered declared) (flat_map text_byte (chars t) ++ 60 ∷ m.tail) v (60 ∷ more)) (ap (λ v. add_text v r) back ∙ sym (stands_alone t r g a)) read)
  content_reads (Element_then n ats c r) h k l more =
      let (a, b) = and_true (spellable.is_tag n ats) (spellable.texts_apart c && (spellable.is_content c && spellable.is_content r)) k in
      let (e, f) = and_true (spellable.texts_apart c) (spellable.is_content c && spellable.is_content r) b in
      let (g, i) = and_true (spellable.is_content c) (spellable.is_content r) f in
      let (u, v) = all_parts (is_known numbered declared) (spaces_at n ats) (spaces_in c ++ spaces_in r) l in
      let (x, y) = all_parts (is_known numbered declared) (spaces_in c) (spaces_in r) v in
      let tag = is_tag numbered declared n ats a u in
      by_case c tag (λ more. content_reads c e g x more) (content_reads r h i y more)
    where
      whole : (c : Forest) → tag_chars (tag_of numbered [] n ats c) ++ (content_chars numbered c ++ (ending (is_end c) (name_chars numbered n) ++ (content_chars numbered r ++ 60 ∷ more)))
          ≡ content_chars numbered (Element_then n ats c r) ++ 60 ∷ more
      whole c =
          let tag = tag_chars (tag_of numbered [] n ats c) in
          let inside = content_chars numbered c in
          let end = ending (is_end c) (name_chars numbered n) in
          let rest = content_chars numbered r in
          sym (append_assoc tag (inside ++ (end ++ rest)) (60 ∷ more) ∙ ap (λ v. tag ++ v) (append_assoc inside (end ++ rest) (60 ∷ more) ∙ ap (λ v. inside ++ v) (append_assoc end rest (60 ∷ more))))

      empty : IsTag numbered declared n ats → Content (bindings numbered declared) (content_chars numbered r ++ 60 ∷ more) r (60 ∷ more)
          → Content (bindings numbered declared) (tag_chars (tag_of numbered [] n ats Nothing) ++ (content_chars numbered r ++ 60 ∷ more)) (Element_then n ats Nothing r) (60 ∷ more)
      empty t rest =
          Content.empty (tag_of numbered [] n ats Nothing) (meaning (bindings numbered declared) n ats)
          (tag_reads (tag_of numbered [] n ats Nothing) (parts_of numbered n) (content_chars numbered r ++ 60 ∷ more) (name_stands_apart numbered d.small n t.name) (inner_pairs numbered declared d n ats t))
          refl (inner_means numbered declared d n ats t true) rest refl

      closes : (name more : List ℕ) → 60 ∷ 47 ∷ (name ++ 62 ∷ more) ≡ ending false name ++ more
      closes name more = ap (λ v. 60 ∷ 47 ∷ v) (sym (append_assoc name (62 ∷ []) more))

      nested : (c : Forest) → is_end c ≡ false → IsTag numbered declared n ats → ((more : List ℕ) → Content (bindings numbered declared) (content_chars numbered c ++ 60 ∷ more) c (60 ∷ more))
          → Content (bindings numbered declared) (content_chars numbered r ++ 60 ∷ more) r (60 ∷ more)
          → Content (bindings numbered declared) (tag_chars (tag_of numbered [] n ats c) ++ (content_chars numbered c ++ (ending false (name_chars numbered n) ++ (content_chars numbered r ++ 60 ∷ more)))) (Element_then n ats c r) (60 ∷ more)
      nested c e t inside rest =
          let after = content_chars numbered r ++ 60 ∷ more in
          let close = 60 ∷ 47 ∷ (name_chars numbered n ++ 62 ∷ after) in
          subst (λ v. Content (bindings numbered declared) (tag_chars (tag_of numbered [] n ats c) ++ (content_chars numbered c ++ v)) (Element_then n ats c r) (60 ∷ more)) (closes (name_chars numbered n) after)
          (Content.nested (tag_of numbered [] n ats c) (meaning (bindings numbered declared) n ats)
          (tag_reads (tag_of numbered [] n ats c) (parts_of numbered n) (content_chars numbered c ++ close) (name_stands_apart numbered d.small n t.name) (inner_pairs numbered declared d n ats t))
          e (inner_means numbered declared d n ats t (is_end c)) (inside (47 ∷ (name_chars numbered n ++ 62 ∷ after)))
          (end_reads (name_chars numbered n) (parts_of numbered n) after (name_stands_apart numbered d.small n t.name)) rest refl)

      by_case : (c : Forest) → IsTag numbered declared n ats → ((more : List ℕ) → Content (bindings numbered declared) (content_chars numbered c ++ 60 ∷ more) c (60 ∷ more))
          → Content (bindings numbered declared) (content_chars numbered r ++ 60 ∷ more) r (60 ∷ more)
          → Content (bindings numbered declared) (content_chars numbered (Element_then n ats c r) ++ 60 ∷ more) (Element_then n ats c r) (60 ∷ more)
      by_case Nothing t inside rest = subst (λ v. Content (bindings numbered declared) v (Element_then n ats Nothing r) (60 ∷ more)) (whole Nothing) (empty t rest)
      by_case (Text_then u q) t inside rest = subst (λ v. Content (bindings numbered declared) v (Element_then n ats (Text_then u q) r) (60 ∷ more)) (whole (Text_then u q)) (nested (Text_then u q) refl t inside rest)
      by_case (Element_then m bs q p) t inside rest =
          subst (λ v. Content (bindings numbered declared) v (Element_then n ats (Element_then m bs q p) r) (60 ∷ more)) (whole (Element_then m bs q p)) (nested (Element_then m bs q p) refl t inside rest)
