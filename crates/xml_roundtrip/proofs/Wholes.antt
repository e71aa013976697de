-- The canonical text of a tree that can be spelled spells that tree.
use Rattle.std.proofs.Common.{◌≡◌, refl, sym, subst, ap, ap₂, ◌∙◌, ℕ, ◌^◌, ◌<◌, List, [], ◌∷◌, ◌++◌, append_assoc, length, map, Bool, true, false, not, cond, ◌&&◌, nat_eq, Option, Some, None, codes, chars, encode_utf8_all, IsUtf8}
use Rattle.std.specs.List.{list_all, flat_map}
use Rattle.std.specs.Str.{is_utf8, bytes_eq}
use Rattle.std.proofs.lemmas.Str.{IsUtf8-from_is_utf8, chars-encodes}
use Rattle.at_base.specs.Chars.{is_xml_char}
use Rattle.xml_profile.specs.declared.name.QName.{QName}
use Rattle.xml_profile.specs.declared.name.Attribute.{Attribute}
use Rattle.xml_profile.specs.declared.tree.Tree.{Tree}
use Rattle.xml_profile.specs.Forest.{Forest}
use Rattle.xml_profile.specs.Forest.Forest.{End as Nothing, Text_then, Element_then}
use Rattle.xml_profile.specs.Prefixes.{xml, xmlns}
use Rattle.xml_profile.specs.CanonicalText.{spaces_at, spaces_in, spaces_of, declared_by, numbered_by, prefix_of, prefixed, name_text, text_byte, value_byte, text_text, value_text, equals_text, declaration_text, attribute_text, is_end, start_text, end_text, content_text, canonical_text}
use Rattle.xml_profile.specs.Declarations.{is_declared, has_prefix}
use Rattle.xml_profile.specs.SpellableTrees as spellable
use Rattle.xml_profile.proofs.Declarations.{all_declared, all_prefixed, all_once}
use Rattle.xml_profile.proofs.DistinctPrefixes.{prefixes_differ}
use Rattle.xml_grammar.specs.Characters.{strip_at, begins_part}
use Rattle.xml_grammar.specs.Spells.{Content, Epilog, Document, Spells, begins_feed, line_ends, optional, declaration_at, body}
use Rattle.xml_roundtrip.proofs.Bools.{and_true, both_true, not_true, differs, turned, all_both, all_parts, all_imply}
use Rattle.xml_roundtrip.proofs.Scalars.{all_scalars}
use Rattle.xml_roundtrip.proofs.CanonicalCharacters.{quoted, pair_chars, closing, tag_chars, name_chars, declaration, attribute, tag_of, ending, content_chars, canonical_chars}
use Rattle.xml_roundtrip.proofs.CanonicalBytes.{is_written, Written, written_both, written_text, written_value, written_low}
use Rattle.xml_roundtrip.proofs.Names.{begins_name, Named, is_prefix, is_local}
use Rattle.xml_roundtrip.proofs.Tags.{tag_reads, end_reads}
use Rattle.xml_roundtrip.proofs.Bindings.{bindings, may_name, Declares, declared_fit}
use Rattle.xml_roundtrip.proofs.Meanings.{is_known, parts_of, name_stands_apart, IsTag, meaning, root_means, root_pairs}
use Rattle.xml_roundtrip.proofs.Contents.{is_tag, content_reads}

-- Bytes and characters

written_in : (a b c x y z : List ℕ) → Written (a ++ (b ++ c)) (x ++ (y ++ z)) → Written ((a ++ b) ++ c) ((x ++ y) ++ z)
written_in a b c x y z h = record { encoded = ap encode_utf8_all (append_assoc x y z) ∙ (h.encoded ∙ sym (append_assoc a b c)); fine = ap (list_all is_written) (append_assoc x y z) ∙ h.fine }

is_text_written : (t : List ℕ) → spellable.is_text t ≡ true → (IsUtf8 t) × (list_all is_xml_char (chars t) ≡ true)
is_text_written t h = let (a, b) = and_true (is_utf8 t) (list_all is_xml_char (chars t)) h in (IsUtf8-from_is_utf8 t a, b)

equals_written : (v : List ℕ) → spellable.is_text v ≡ true → Written (equals_text v) (quoted v)
equals_written v h =
    let (u, x) = is_text_written v h in
    written_both (codes "=\"") (value_text v ++ codes "\"") (codes "=\"") (flat_map value_byte (chars v) ++ codes "\"") (written_low (codes "=\"") refl)
    (written_both (value_text v) (codes "\"") (flat_map value_byte (chars v)) (codes "\"") (written_value v u x) (written_low (codes "\"") refl))

module _ (numbered : List (List ℕ)) (small : length numbered < 2 ^ 63) where
  name_written : (n : QName) → spellable.is_name n ≡ true → Written (name_text numbered n) (name_chars numbered n)
  name_written n h = by_case n.space
    where
      local : Written n.local (chars n.local)
      local = (is_local n.local (and_true (spellable.is_space_or_none n.space) (spellable.is_part n.local) h).1).written

      by_case : (space : Option (List ℕ)) → Written (prefixed numbered space n.local) (prefixed numbered space (chars n.local))
      by_case None = local
      by_case (Some s) =
          written_both (prefix_of numbered s) (codes ":" ++ n.local) (prefix_of numbered s) (codes ":" ++ chars n.local) (written_low (prefix_of numbered s) (is_prefix numbered small s).low)
          (written_both (codes ":") n.local (codes ":") (chars n.local) (written_low (codes ":") refl) local)

  declaration_written : (s : List ℕ) → spellable.is_text s ≡ true → Written (declaration_text numbered s) (pair_chars (declaration numbered s))
  declaration_written s h =
      written_both (codes " xmlns:") (prefix_of numbered s ++ equals_text s) (codes " xmlns:") (prefix_of numbered s ++ quoted s) (written_low (codes " xmlns:") refl)
      (written_both (prefix_of numbered s) (equals_text s) (prefix_of numbered s) (quoted s) (written_low (prefix_of numbered s) (is_prefix numbered small s).low) (equals_written s h))

  attribute_written : (a : Attribute) → spellable.is_attribute a ≡ true → Written (attribute_text numbered a) (pair_chars (attribute numbered a))
  attribute_written a h =
      let (x, y) = and_true (spellable.is_name a.name) (not (spellable.is_declaration a.name) && spellable.is_text a.value) h in
      let (u, v) = and_true (not (spellable.is_declaration a.name)) (spellable.is_text a.value) y in
      written_both (codes " ") (name_text numbered a.name ++ equals_text a.value) (codes " ") (name_chars numbered a.name ++ quoted a.value) (written_low (codes " ") refl)
      (written_both (name_text numbered a.name) (equals_text a.value) (name_chars numbered a.name) (quoted a.value) (name_written a.name x) (equals_written a.value v))

  closing_written : (empty : Bool) → Written (cond empty (codes "/>") (codes ">")) (closing empty)
  closing_written true = written_low (codes "/>") refl
  closing_written false = written_low (codes ">") refl

  attributes_written : (ats : List Attribute) (empty : Bool) → list_all spellable.is_attribute ats ≡ true
      → Written (flat_map (attribute_text numbered) ats ++ cond empty (codes "/>") (codes ">")) (flat_map pair_chars (map (attribute numbered) ats) ++ closing empty)
  attributes_written [] empty h = closing_written empty
  attributes_written (a ∷ ats) empty h =
      let (x, y) = and_true (spellable.is_attribute a) (list_all spellable.is_attribute ats) h in
      let end = cond empty (codes "/>") (codes ">") in
      written_in (attribute_text numbered a) (flat_map (attribute_text numbered) ats) end (pair_chars (attribute numbered a)) (flat_map pair_chars (map (attribute numbered) ats)) (closing empty)
      (written_both (attribute_text numbered a) (flat_map (attribute_text numbered) ats ++ end) (pair_chars (attribute numbered a)) (flat_map pair_chars (map (attribute numbered) ats) ++ closing empty)
      (attribute_written a x) (attributes_written ats empty y))

  pairs_written : (ds : List (List ℕ)) (ats : List Attribute) (empty : Bool) → list_all spellable.is_text ds ≡ true → list_all spellable.is_attribute ats ≡ true
      → Written (flat_map (declaration_text numbered) ds ++ (flat_map (attribute_text numbered) ats ++ cond empty (codes "/>") (codes ">"))) (flat_map pair_chars (map (declaration numbered) ds ++ map (attribute numbered) ats) ++ closing empty)
  pairs_written [] ats empty k h = attributes_written ats empty h
  pairs_written (d ∷ ds) ats empty k h =
      let (x, y) = and_true (spellable.is_text d) (list_all spellable.is_text ds) k in
      let end = flat_map (attribute_text numbered) ats ++ cond empty (codes "/>") (codes ">") in
      let more = flat_map pair_chars (map (declaration numbered) ds ++ map (attribute numbered) ats) in
      written_in (declaration_text numbered d) (flat_map (declaration_text numbered) ds) end (pair_chars (declaration numbered d)) more (closing empty)
      (written_both (declaration_text numbered d) (flat_map (declaration_text numbered) ds ++ end) (pair_chars (declaration numbered d)) (more ++ closing empty) (declaration_written d x) (pairs_written ds ats empty y h))

  tag_written : (ds : List (List ℕ)) (n : QName) (ats : List Attribute) (c : Forest) → list_all spellable.is_text ds ≡ true → spellable.is_tag n ats ≡ true
      → Written (start_text numbered ds n ats c) (tag_chars (tag_of numbered ds n ats c))
  tag_written ds n ats c k h =
      let (a, b) = and_true (spellable.is_name n) (list_all spellable.is_attribute ats && spellable.are_apart ats) h in
      let (x, y) = and_true (list_all spellable.is_attribute ats) (spellable.are_apart ats) b in
      let pairs = flat_map (declaration_text numbered) ds ++ (flat_map (attribute_text numbered) ats ++ cond (is_end c) (codes "/>") (codes ">")) in
      let read = flat_map pair_chars (map (declaration numbered) ds ++ map (attribute numbered) ats) ++ closing (is_end c) in
      written_both (codes "<") (name_text numbered n ++ pairs) (codes "<") (name_chars numbered n ++ read) (written_low (codes "<") refl)
      (written_both (name_text numbered n) pairs (name_chars numbered n) read (name_written n a) (pairs_written ds ats (is_end c) k x))

  ending_written : (n : QName) (empty : Bool) → spellable.is_name n ≡ true → Written (cond empty [] (codes "</" ++ (name_text numbered n ++ codes ">"))) (ending empty (name_chars numbered n))
  ending_written n true h = written_low [] refl
  ending_written n false h =
      written_both (codes "</") (name_text numbered n ++ codes ">") (codes "</") (name_chars numbered n ++ codes ">") (written_low (codes "</") refl)
      (written_both (name_text numbered n) (codes ">") (name_chars numbered n) (codes ">") (name_written n h) (written_low (codes ">") refl))

  content_written : (f : Forest) → spellable.is_content f ≡ true → Written (content_text numbered f) (content_chars numbered f)
  content_written Nothing h = written_low [] refl
  content_written (Text_then t r) h =
      let (a, b) = and_true (not (spellable.is_empty t) && spellable.is_text t) (spellable.is_content r) h in
      let (x, y) = and_true (not (spellable.is_empty t)) (spellable.is_text t) a in
      let (u, v) = is_text_written t y in
      written_both (text_text t) (content_text numbered r) (flat_map text_byte (chars t)) (content_chars numbered r) (written_text t u v) (content_written r b)
  content_written (Element_then n ats c r) h =
      let (a, b) = and_true (spellable.is_tag n ats) (spellable.texts_apart c && (spellable.is_content c && spellable.is_content r)) h in
      let (x, y) = and_true (spellable.texts_apart c) (spellable.is_content c && spellable.is_content r) b in
      let (u, v) = and_true (spellable.is_content c) (spellable.is_content r) y in
      let (w, z) = and_true (spellable.is_name n) (list_all spellable.is_attribute ats && spellable.are_apart ats) a in
      written_both (start_text numbered [] n ats c) (content_text numbered c ++ (end_text numbered n c ++ content_text numbered r))
      (tag_chars (tag_of numbered [] n ats c)) (content_chars numbered c ++ (ending (is_end c) (name_chars numbered n) ++ content_chars numbered r))
      (tag_written [] n ats c refl a)
      (written_both (content_text numbered c) (end_text numbered n c ++ content_text numbered r) (content_chars numbered c) (ending (is_end c) (name_chars numbered n) ++ content_chars numbered r) (content_written c u)
      (written_both (end_text numbered n c) (content_text numbered r) (ending (is_end c) (name_chars numbered n)) (content_chars numbered r) (ending_written n (is_end c) w) (content_written r v)))

-- The facts of a tree

pub record Can (t : Tree) : Type 0 where
  pub declares : Declares (numbered_by t) (declared_by t)
  pub spaces : list_all spellable.is_text (declared_by t) ≡ true
  pub tag : spellable.is_tag t.name t.attributes ≡ true
  pub texts : spellable.texts_apart t.children ≡ true
  pub content : spellable.is_content t.children ≡ true
  pub known : list_all (is_known (numbered_by t) (declared_by t)) (spaces_of t) ≡ true

all_and : {X : Type 0} (p q : X → Bool) (xs : List X) → list_all p xs ≡ true → list_all q xs ≡ true → list_all (λ x. p x && q x) xs ≡ true
all_and p q [] h k = refl
all_and p q (x ∷ xs) h k =
    let (a, b) = and_true (p x) (list_all p xs) h in
    let (c, d) = and_true (q x) (list_all q xs) k in
    both_true (p x && q x) (list_all (λ x. p x && q x) xs) (both_true (p x) (q x) a c) (all_and p q xs b d)

attribute_spaces : (ats : List Attribute) → list_all spellable.is_attribute ats ≡ true → list_all spellable.is_space_or_none (map (λ a. a.name.space) ats) ≡ true
attribute_spaces [] h = refl
attribute_spaces (a ∷ ats) h =
    let (x, y) = and_true (spellable.is_attribute a) (list_all spellable.is_attribute ats) h in
    let (u, v) = and_true (spellable.is_name a.name) (not (spellable.is_declaration a.name) && spellable.is_text a.value) x in
    let (w, z) = and_true (spellable.is_space_or_none a.name.space) (spellable.is_part a.name.local) u in
    both_true (spellable.is_space_or_none a.name.space) (list_all spellable.is_space_or_none (map (λ a. a.name.space) ats)) w (attribute_spaces ats y)

tag_spaces : (n : QName) (ats : List Attribute) → spellable.is_tag n ats ≡ true → list_all spellable.is_space_or_none (spaces_at n ats) ≡ true
tag_spaces n ats h =
    let (a, b) = and_true (spellable.is_name n) (list_all spellable.is_attribute ats && spellable.are_apart ats) h in
    let (x, y) = and_true (list_all spellable.is_attribute ats) (spellable.are_apart ats) b in
    let (w, z) = and_true (spellable.is_space_or_none n.space) (spellable.is_part n.local) a in
    both_true (spellable.is_space_or_none n.space) (list_all spellable.is_space_or_none (map (λ a. a.name.space) ats)) w (attribute_spaces ats x)

content_spaces : (f : Forest) → spellable.is_content f ≡ true → list_all spellable.is_space_or_none (spaces_in f) ≡ true
content_spaces Nothing h = refl
content_spaces (Text_then t r) h = content_spaces r (and_true (not (spellable.is_empty t) && spellable.is_text t) (spellable.is_content r) h).1
content_spaces (Element_then n ats c r) h =
    let (a, b) = and_true (spellable.is_tag n ats) (spellable.texts_apart c && (spellable.is_content c && spellable.is_content r)) h in
    let (x, y) = and_true (spellable.texts_apart c) (spellable.is_content c && spellable.is_content r) b in
    let (u, v) = and_true (spellable.is_content c) (spellable.is_content r) y in
    all_both spellable.is_space_or_none (spaces_at n ats) (spaces_in c ++ spaces_in r) (tag_spaces n ats a) (all_both spellable.is_space_or_none (spaces_in c) (spaces_in r) (content_spaces c u) (content_spaces r v))

named_text : (numbered : List (List ℕ)) (s : List ℕ) → may_name numbered s ≡ true → spellable.is_text s ≡ true
named_text numbered s h =
    let (a, b) = and_true (not (bytes_eq s xml)) (spellable.is_space s && has_prefix numbered (Some s)) h in
    let (u, v) = and_true (spellable.is_space s) (has_prefix numbered (Some s)) b in
    let (e, f) = and_true (not (spellable.is_empty s)) (not (bytes_eq s xmlns) && spellable.is_text s) u in
    (and_true (not (bytes_eq s xmlns)) (spellable.is_text s) f).1

pub can : (t : Tree) → length (numbered_by t) < 2 ^ 63 → spellable.can_be_spelled t ≡ true → Can t
can t small h =
    let (a, b) = and_true (spellable.is_tag t.name t.attributes) (spellable.texts_apart t.children && spellable.is_content t.children) h in
    let (c, d) = and_true (spellable.texts_apart t.children) (spellable.is_content t.children) b in
    let spaces : list_all spellable.is_space_or_none (spaces_of t) ≡ true =
    all_both spellable.is_space_or_none (spaces_at t.name t.attributes) (spaces_in t.children) (tag_spaces t.name t.attributes a) (content_spaces t.children d) in
    let prefixed : list_all (has_prefix (numbered_by t)) (spaces_of t) ≡ true = all_prefixed [] (spaces_of t) in
    let named : list_all (may_name (numbered_by t)) (declared_by t) ≡ true =
    declared_fit (λ o. spellable.is_space_or_none o && has_prefix (numbered_by t) o) [] (spaces_of t) refl (all_and spellable.is_space_or_none (has_prefix (numbered_by t)) (spaces_of t) spaces prefixed) in
    record {
      declares = record { small = small; differ = prefixes_differ (numbered_by t) small; once = all_once [] (spaces_of t) refl; all_named = named };
      spaces = all_imply (may_name (numbered_by t)) spellable.is_text (named_text (numbered_by t)) (declared_by t) named;
      tag = a;
      texts = c;
      content = d;
      known = all_and (is_declared (declared_by t)) (has_prefix (numbered_by t)) (spaces_of t) (all_declared [] (spaces_of t)) prefixed;
    }

-- The whole

pub whole_written : (t : Tree) → Can t → Written (canonical_text t) (canonical_chars t)
whole_written t h =
    let name = (and_true (spellable.is_name t.name) (list_all spellable.is_attribute t.attributes && spellable.are_apart t.attributes) h.tag).0 in
    written_both (start_text (numbered_by t) (declared_by t) t.name t.attributes t.children) (content_text (numbered_by t) t.children ++ end_text (numbered_by t) t.name t.children)
    (tag_chars (tag_of (numbered_by t) (declared_by t) t.name t.attributes t.children)) (content_chars (numbered_by t) t.children ++ ending (is_end t.children) (name_chars (numbered_by t) t.name))
    (tag_written (numbered_by t) h.declares.small (declared_by t) t.name t.attributes t.children h.spaces h.tag)
    (written_both (content_text (numbered_by t) t.children) (end_text (numbered_by t) t.name t.children) (content_chars (numbered_by t) t.children) (ending (is_end t.children) (name_chars (numbered_by t) t.name))
    (content_written (numbered_by t) h.declares.small t.children h.content) (ending_written (numbered_by t) h.declares.small t.name (is_end t.children) name))

-- an element as a document
module _ (numbered declared : List (List ℕ)) (d : Declares numbered declared) (n : QName) (ats : List Attribute) (i : IsTag numbered declared n ats) where
  abbrev element : Forest → Tree
  element c = record { name = n; attributes = ats; children = c }

  named : Named (name_chars numbered n) (parts_of numbered n)
  named = name_stands_apart numbered d.small n i.name

  empty_document : Document [] (tag_chars (tag_of numbered declared n ats Nothing) ++ []) (element Nothing)
  empty_document =
      Document.empty (tag_of numbered declared n ats Nothing) (meaning (bindings numbered declared) n ats)
      (tag_reads (tag_of numbered declared n ats Nothing) (parts_of numbered n) [] named (root_pairs numbered declared d n ats i)) refl (root_means numbered declared d n ats i true) (Epilog.stop refl) refl

  nested_document : (c : Forest) → is_end c ≡ false → ((more : List ℕ) → Content (bindings numbered declared) (content_chars numbered c ++ 60 ∷ more) c (60 ∷ more))
      → Document [] (tag_chars (tag_of numbered declared n ats c) ++ (content_chars numbered c ++ ending false (name_chars numbered n))) (element c)
  nested_document c e inside =
      Document.nested (tag_of numbered declared n ats c) (meaning (bindings numbered declared) n ats) c
      (tag_reads (tag_of numbered declared n ats c) (parts_of numbered n) (content_chars numbered c ++ ending false (name_chars numbered n)) named (root_pairs numbered declared d n ats i))
      e (root_means numbered declared d n ats i (is_end c)) (inside (47 ∷ (name_chars numbered n ++ 62 ∷ [])))
      (end_reads (name_chars numbered n) (parts_of numbered n) [] named) (Epilog.stop refl) refl

  element_document : (c : Forest) → ((more : List ℕ) → Content (bindings numbered declared) (content_chars numbered c ++ 60 ∷ more) c (60 ∷ more))
      → Document [] (tag_chars (tag_of numbered declared n ats c) ++ (content_chars numbered c ++ ending (is_end c) (name_chars numbered n))) (element c)
  element_document Nothing inside = empty_document
  element_document (Text_then u r) inside = nested_document (Text_then u r) refl inside
  element_document (Element_then m bs c r) inside = nested_document (Element_then m bs c r) refl inside

whole_document : (t : Tree) → Can t → Document [] (canonical_chars t) t
whole_document t h =
    let (u, v) = all_parts (is_known (numbered_by t) (declared_by t)) (spaces_at t.name t.attributes) (spaces_in t.children) h.known in
    element_document (numbered_by t) (declared_by t) h.declares t.name t.attributes (is_tag (numbered_by t) (declared_by t) t.name t.attributes h.tag u) t.children
    (content_reads (numbered_by t) (declared_by t) h.declares t.children h.texts h.content v)

-- Neither a byte order mark nor a declaration stands in front

no_mark : (cs : List ℕ) → declaration_at (60 ∷ cs) ≡ None → body (60 ∷ cs) ≡ 60 ∷ cs
unfolding body
no_mark cs e = ap (λ o. optional o (60 ∷ cs)) e

no_declaration_at : (cs : List ℕ) → strip_at (codes "<?xml") cs ≡ None → declaration_at cs ≡ None
unfolding declaration_at
no_declaration_at cs e = rw e refl

name_first : (n rest : List ℕ) → begins_name n ≡ true → strip_at (codes "<?xml") (60 ∷ (n ++ rest)) ≡ None
name_first [] rest h = cc
name_first (c ∷ n) rest h = ap (λ b. cond b (strip_at (codes "xml") (n ++ rest)) None) (turned c 63 (differs begins_part 63 c refl h))

pub body_stays : (n rest : List ℕ) → begins_name n ≡ true → body (60 ∷ (n ++ rest)) ≡ 60 ∷ (n ++ rest)
body_stays n rest h = no_mark (n ++ rest) (no_declaration_at (60 ∷ (n ++ rest)) (name_first n rest h))

-- no CR, so the line ends stay
pub ends_stay : (cs : List ℕ) → list_all is_written cs ≡ true → line_ends cs ≡ cs
ends_stay [] h = refl
ends_stay (c ∷ cs) h =
    let (a, b) = and_true (is_written c) (list_all is_written cs) h in
    let (x, y) = and_true (is_xml_char c) (not (nat_eq c 13)) a in
    ap₂ (λ b rest. cond b (cond (begins_feed cs) [] (10 ∷ [])) (c ∷ []) ++ rest) (not_true (nat_eq c 13) y) (ends_stay cs b)

all_chars : (cs : List ℕ) → list_all is_written cs ≡ true → list_all is_xml_char cs ≡ true
all_chars cs h = all_imply is_written is_xml_char (λ c k. (and_true (is_xml_char c) (not (nat_eq c 13)) k).0) cs h

-- bytes that are the UTF-8 of such characters spell what these are read as
pub spells_written : (bytes cs : List ℕ) (t : Tree) → Written bytes cs → body cs ≡ cs → Document [] cs t → Spells bytes t
spells_written bytes cs t h b d =
    let s = all_scalars cs (all_chars cs h.fine) in
    let back : chars bytes ≡ cs = ap chars (sym h.encoded) ∙ chars-encodes cs s in
    record {
      utf8 = (cs, (s, h.encoded));
      characters = ap (list_all is_xml_char) back ∙ all_chars cs h.fine;
      document = subst (λ v. Document [] v t) (sym (ap (λ v. body (line_ends v)) back ∙ (ap body (ends_stay cs h.fine) ∙ b))) d;
    }

pub canonical_spells : (t : Tree) → length (numbered_by t) < 2 ^ 63 → spellable.can_be_spelled t ≡ true → Spells (canonical_text t) t
canonical_spells t small h =
    let k = can t small h in
    let name = (and_true (spellable.is_name t.name) (list_all spellable.is_attribute t.attributes && spellable.are_apart t.attributes) k.tag).0 in
    spells_written (canonical_text t) (canonical_chars t) t (whole_written t k) (whole_body t (name_stands_apart (numbered_by t) small t.name name).begins) (whole_document t k)
  where
    whole_body : (t : Tree) → begins_name (name_chars (numbered_by t) t.name) ≡ true → body (canonical_chars t) ≡ canonical_chars t
    whole_body t h =
        let name = name_chars (numbered_by t) t.name in
        let pairs = flat_map pair_chars (map (declaration (numbered_by t)) (declared_by t) ++ map (attribute (numbered_by t)) t.attributes) ++ closing (is_end t.children) in
        let rest = content_chars (numbered_by t) t.children ++ ending (is_end t.children) name in
        subst (λ v. body (60 ∷ v) ≡ 60 ∷ v) (sym (append_assoc name pairs rest)) (body_stays name (pairs ++ rest) h)
