-- Which trees have a spelling in the profile.
use Rattle.std.specs.Prelude.{ℕ, List, [], ◌∷◌, Bool, true, false, not, ◌&&◌, ◌||◌, nat_eq, nat_le, Option, Some, None, codes, is_none}
use Rattle.std.specs.List.{list_all, list_any}
use Rattle.std.specs.Str.{bytes_eq, chars, is_utf8}
use Rattle.at_base.specs.Chars.{is_xml_char}
use Rattle.xml_profile.specs.declared.name.QName.{QName}
use Rattle.xml_profile.specs.declared.name.Attribute.{Attribute}
use Rattle.xml_profile.specs.declared.tree.Tree.{Tree}
use Rattle.xml_profile.specs.Forest.{Forest}
use Rattle.xml_profile.specs.Forest.Forest.{End, Text_then, Element_then}
use Rattle.xml_profile.specs.Prefixes.{xmlns}

-- characters of a document (XML 1.0, section 2.2), in UTF-8
abbrev pub is_text : List ℕ → Bool
is_text bytes = is_utf8 bytes && list_all is_xml_char (chars bytes)

-- the characters of a part of a name: ASCII letters and digits, `_`, `-`, `.`, and all past ASCII
abbrev pub is_part_char : ℕ → Bool
is_part_char c =
    (nat_le 97 c && nat_le c 122) || (nat_le 65 c && nat_le c 90) || (nat_le 48 c && nat_le c 57)
    || nat_eq c 95 || nat_eq c 45 || nat_eq c 46 || (nat_le 128 c && is_xml_char c)

-- a part is not empty, and begins with no digit, `-` or `.`
abbrev pub begins_part : List ℕ → Bool
begins_part [] = false
begins_part (b ∷ bs) = not ((nat_le 48 b && nat_le b 57) || nat_eq b 45 || nat_eq b 46)

abbrev pub has_part_chars : List ℕ → Bool
has_part_chars bytes = is_utf8 bytes && list_all is_part_char (chars bytes)

abbrev pub is_part : List ℕ → Bool
is_part bytes = begins_part bytes && has_part_chars bytes

abbrev pub is_empty : List ℕ → Bool
is_empty [] = true
is_empty (b ∷ bs) = false

-- what a prefix may be bound to (Namespaces in XML 1.0, sections 3 and 5)
abbrev pub is_space : List ℕ → Bool
is_space space = not (is_empty space) && (not (bytes_eq space xmlns) && is_text space)

abbrev pub is_space_or_none : Option (List ℕ) → Bool
is_space_or_none None = true
is_space_or_none (Some space) = is_space space

abbrev pub is_name : QName → Bool
is_name name = is_space_or_none name.space && is_part name.local

-- the name xmlns without a prefix is a declaration's (Namespaces in XML 1.0, section 3)
abbrev pub is_declaration : QName → Bool
is_declaration name = is_none name.space && bytes_eq name.local (codes "xmlns")

abbrev pub is_attribute : Attribute → Bool
is_attribute a = is_name a.name && (not (is_declaration a.name) && is_text a.value)

abbrev pub same_space : Option (List ℕ) → Option (List ℕ) → Bool
same_space None None = true
same_space None (Some t) = false
same_space (Some s) None = false
same_space (Some s) (Some t) = bytes_eq s t

abbrev pub same_name : QName → QName → Bool
same_name a b = same_space a.space b.space && bytes_eq a.local b.local

-- no two attributes of one element have the same name (Namespaces in XML 1.0, section 6.3)
abbrev pub are_apart : List Attribute → Bool
are_apart [] = true
are_apart (a ∷ rest) = not (list_any (λ b. same_name a.name b.name) rest) && are_apart rest

abbrev pub is_tag : QName → List Attribute → Bool
is_tag name attributes = is_name name && (list_all is_attribute attributes && are_apart attributes)

abbrev pub begins_with_text : Forest → Bool
begins_with_text End = false
begins_with_text (Text_then t r) = true
begins_with_text (Element_then n a c r) = false

-- no two texts are adjacent
abbrev pub texts_apart : Forest → Bool
texts_apart End = true
texts_apart (Text_then t r) = not (begins_with_text r) && texts_apart r
texts_apart (Element_then n a c r) = texts_apart r

-- no text is empty, and all that stands below can be spelled
abbrev pub is_content : Forest → Bool
is_content End = true
is_content (Text_then t r) = (not (is_empty t) && is_text t) && is_content r
is_content (Element_then n a c r) = is_tag n a && (texts_apart c && (is_content c && is_content r))

abbrev pub can_be_spelled : Tree → Bool
can_be_spelled t = is_tag t.name t.attributes && (texts_apart t.children && is_content t.children)
