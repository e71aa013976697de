-- Canonical texts and spelled trees, worked out.
use Rattle.std.specs.Prelude.{ℕ, List, [], ◌∷◌, Some, None, true, false, codes, decimal, ◌++◌, ◌≡◌, refl}
use Rattle.std.specs.Str.{chars, is_utf8}
use Rattle.xml_profile.specs.declared.name.QName.{QName}
use Rattle.xml_profile.specs.declared.tree.Tree.{Tree}
use Rattle.xml_profile.specs.Forest.Forest.{End, Text_then, Element_then}
use Rattle.xml_profile.specs.CanonicalText.{canonical_text, declared_by, numbered_by, prefix_of}
use Rattle.xml_profile.specs.SpellableTrees.{can_be_spelled, is_part}

abbrev plain : List ℕ → QName
plain local = record { space = None; local = local }

abbrev within : List ℕ → List ℕ → QName
within space local = record { space = Some space; local = local }

pub an_empty_element : canonical_text (record { name = plain (codes "a"); attributes = []; children = End }) ≡ codes "<a/>"
an_empty_element = refl

pub a_text_escaped : canonical_text (record { name = plain (codes "a"); attributes = []; children = Text_then (codes "1 < 2 && \"x\"") End }) ≡ codes "<a>1 &lt; 2 &amp;&amp; \"x\"</a>"
a_text_escaped = refl

pub a_value_escaped : canonical_text (record { name = plain (codes "a"); attributes = record { name = plain (codes "b"); value = 34 ∷ 9 ∷ 10 ∷ 13 ∷ [] } ∷ []; children = End }) ≡ codes "<a b=\"&quot;&#9;&#10;&#13;\"/>"
a_value_escaped = refl

-- unknown namespaces in the order of first use, the second used by an attribute first
abbrev two_spaces : Tree
two_spaces = record { name = within (codes "urn:x") (codes "a"); attributes = record { name = within (codes "urn:y") (codes "b"); value = [] } ∷ []; children = Element_then (within (codes "urn:x") (codes "c")) [] End End }

pub declared_in_order : declared_by two_spaces ≡ codes "urn:x" ∷ codes "urn:y" ∷ []
declared_in_order = refl

pub a_numbered_prefix : prefix_of (numbered_by two_spaces) (codes "urn:y") ≡ codes "n" ++ decimal 2
a_numbered_prefix = refl

pub a_fixed_prefix : canonical_text (record { name = within (codes "http://docs.oasis-open.org/ws-tx/wsat/2006/06") (codes "Rollback"); attributes = []; children = End }) ≡ codes "<wsat:Rollback xmlns:wsat=\"http://docs.oasis-open.org/ws-tx/wsat/2006/06\"/>"
a_fixed_prefix = refl

pub a_part : is_part (codes "a-1.b") ≡ true
unfolding chars is_utf8 lib.Utf8.encode
a_part = refl

pub no_part : is_part (codes "-a") ≡ false
no_part = refl

pub two_texts : can_be_spelled (record { name = plain (codes "a"); attributes = []; children = Text_then (codes "b") (Text_then (codes "c") End) }) ≡ false
unfolding chars is_utf8 lib.Utf8.encode
two_texts = refl

pub a_declaration : can_be_spelled (record { name = plain (codes "a"); attributes = record { name = plain (codes "xmlns"); value = codes "u" } ∷ []; children = End }) ≡ false
unfolding chars is_utf8 lib.Utf8.encode
a_declaration = refl
