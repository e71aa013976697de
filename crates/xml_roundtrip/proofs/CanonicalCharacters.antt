-- The canonical text in characters, tag by tag.
use Rattle.std.specs.Prelude.{ℕ, List, [], ◌∷◌, ◌++◌, Bool, true, false, codes, map, chars}
use Rattle.std.specs.List.{flat_map}
use Rattle.xml_grammar.specs.Tokens.{Pair, Tag}
use Rattle.xml_profile.specs.declared.name.QName.{QName}
use Rattle.xml_profile.specs.declared.name.Attribute.{Attribute}
use Rattle.xml_profile.specs.declared.tree.Tree.{Tree}
use Rattle.xml_profile.specs.Forest.{Forest}
use Rattle.xml_profile.specs.Forest.Forest.{End, Text_then, Element_then}
use Rattle.xml_profile.specs.CanonicalText.{prefix_of, prefixed, text_byte, value_byte, is_end, numbered_by, declared_by}

-- a value in its quotes
abbrev pub quoted : List ℕ → List ℕ
quoted value = 61 ∷ 34 ∷ (flat_map value_byte (chars value) ++ 34 ∷ [])

abbrev pub pair_chars : Pair → List ℕ
pair_chars p = 32 ∷ (p.name ++ quoted p.value)

abbrev pub closing : Bool → List ℕ
closing true = codes "/>"
closing false = codes ">"

abbrev pub tag_chars : Tag → List ℕ
tag_chars t = 60 ∷ (t.name ++ (flat_map pair_chars t.pairs ++ closing t.is_empty))

abbrev pub name_chars : List (List ℕ) → QName → List ℕ
name_chars numbered name = prefixed numbered name.space (chars name.local)

abbrev pub declaration : List (List ℕ) → List ℕ → Pair
declaration numbered space = record { name = codes "xmlns:" ++ prefix_of numbered space; value = space }

abbrev pub attribute : List (List ℕ) → Attribute → Pair
attribute numbered a = record { name = name_chars numbered a.name; value = a.value }

abbrev pub tag_of : List (List ℕ) → List (List ℕ) → QName → List Attribute → Forest → Tag
tag_of numbered declared n a c = record {
  name = name_chars numbered n;
  pairs = map (declaration numbered) declared ++ map (attribute numbered) a;
  is_empty = is_end c;
}

abbrev pub ending : Bool → List ℕ → List ℕ
ending true name = []
ending false name = 60 ∷ 47 ∷ (name ++ 62 ∷ [])

abbrev pub content_chars : List (List ℕ) → Forest → List ℕ
content_chars numbered End = []
content_chars numbered (Text_then t r) = flat_map text_byte (chars t) ++ content_chars numbered r
content_chars numbered (Element_then n a c r) =
    tag_chars (tag_of numbered [] n a c) ++ (content_chars numbered c ++ (ending (is_end c) (name_chars numbered n) ++ content_chars numbered r))

abbrev pub canonical_chars : Tree → List ℕ
canonical_chars t =
    tag_chars (tag_of (numbered_by t) (declared_by t) t.name t.attributes t.children)
    ++ (content_chars (numbered_by t) t.children ++ ending (is_end t.children) (name_chars (numbered_by t) t.name))
