-- The characters that an XML document may hold (XML 1.0, section 2.2, the production Char).
use Rattle.std.specs.Prelude.{ℕ, List, Bool, nat_eq, nat_le, ◌&&◌, ◌||◌, ◌≡◌, true, false, refl, IsTrue}
use Rattle.std.specs.List.{list_all}
use Rattle.std.specs.Str.{chars}

abbrev pub is_xml_char : ℕ → Bool
is_xml_char c =
    nat_eq c 0x9 || nat_eq c 0xA || nat_eq c 0xD || (nat_le 0x20 c && nat_le c 0xD7FF)
    || (nat_le 0xE000 c && nat_le c 0xFFFD) || (nat_le 0x10000 c && nat_le c 0x10FFFF)

-- a text of such characters, in UTF-8
abbrev pub IsXmlText : List ℕ → Type 0
IsXmlText bytes = IsTrue (list_all is_xml_char (chars bytes))

pub tab_stands : is_xml_char 9 ≡ true
tab_stands = refl

pub escape_does_not : is_xml_char 27 ≡ false
escape_does_not = refl
