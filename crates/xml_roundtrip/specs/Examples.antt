-- Small trees, and what their canonical texts are read as.
use Rattle.std.specs.Prelude.{ℕ, List, [], ◌∷◌, Some, None, true, codes, ◌≡◌, refl}
use Rattle.std.specs.Fmt.{digits}
use Rattle.std.specs.Str.{chars, is_utf8}
use Rattle.xml_profile.specs.declared.name.QName.{QName}
use Rattle.xml_profile.specs.declared.tree.Tree.{Tree}
use Rattle.xml_profile.specs.Forest.Forest.{End, Text_then, Element_then}
use Rattle.xml_profile.specs.CanonicalText.{canonical_text}
use Rattle.xml_profile.specs.SpellableTrees.{can_be_spelled}
use Rattle.xml_grammar.specs.Namespaces.{means}
use Rattle.xml_grammar.specs.Code.Reading.{pair_at, start_at, markup_at}
use Rattle.xml_grammar.specs.Spells.{declaration_at, body, line_ends}
use Rattle.xml_grammar.specs.Code.Whole.{read_text}

abbrev plain : List ℕ → QName
plain local = record { space = None; local = local }

abbrev within : List ℕ → List ℕ → QName
within space local = record { space = Some space; local = local }

-- a text of marks that are written by reference, and one past ASCII
abbrev marks : Tree
marks = record {
  name = plain (codes "a");
  attributes = record { name = plain (codes "b"); value = 34 ∷ 9 ∷ 10 ∷ 13 ∷ 32 ∷ [] } ∷ [];
  children = Text_then (93 ∷ 93 ∷ 62 ∷ 13 ∷ 10 ∷ 195 ∷ 164 ∷ []) (Element_then (plain (codes "c")) [] End End);
}

pub marks_can : can_be_spelled marks ≡ true
unfolding chars is_utf8 lib.Utf8.encode
marks_can = refl

pub marks_read : read_text (body (line_ends (chars (canonical_text marks)))) ≡ Some marks
unfolding read_text means start_at pair_at markup_at body declaration_at chars lib.Utf8.encode
marks_read = refl

-- namespaces with a fixed prefix, with a number, and that of xml
abbrev spaces : Tree
spaces = record {
  name = within (codes "urn:x") (codes "a");
  attributes = record { name = within (codes "http://www.w3.org/XML/1998/namespace") (codes "lang"); value = codes "en" } ∷ record { name = within (codes "urn:y") (codes "b"); value = [] } ∷ [];
  children = Element_then (within (codes "http://www.w3.org/2005/08/addressing") (codes "To")) [] (Text_then (codes "x") End) (Element_then (plain (codes "d")) [] End End);
}

pub spaces_read : read_text (body (line_ends (chars (canonical_text spaces)))) ≡ Some spaces
unfolding read_text means start_at pair_at markup_at body declaration_at chars digits lib.Utf8.encode
spaces_read = refl

-- an attribute with the name of a declaration can't be spelled: its text is read as a tree without it
abbrev declared : Tree
declared = record { name = plain (codes "a"); attributes = record { name = plain (codes "xmlns"); value = codes "u" } ∷ []; children = End }

pub declared_read_as_another : read_text (body (line_ends (chars (canonical_text declared)))) ≡ Some (record { name = within (codes "u") (codes "a"); attributes = []; children = End })
unfolding read_text means start_at pair_at markup_at body declaration_at chars lib.Utf8.encode
declared_read_as_another = refl
