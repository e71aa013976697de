-- What an element says: its text value, its attributes and the elements in it.
use Rattle.std.specs.Prelude.{ℕ, List, [], ◌∷◌, ◌++◌, ◌==◌, Bool, true, false, ◌&&◌, ◌||◌, Option, Some, None, if◌then◌else◌}
use Rattle.std.specs.Str.{bytes_eq}
use Rattle.xml_profile.specs.declared.name.QName.{QName}
use Rattle.xml_profile.specs.declared.name.Attribute.{Attribute}
use Rattle.xml_profile.specs.declared.tree.Tree.{Tree}
use Rattle.xml_profile.specs.Forest.{Forest}
use Rattle.xml_profile.specs.Forest.Forest.{End, Text_then, Element_then}

-- white space: space, TAB, LF and CR (XML 1.0, section 2.3)
abbrev pub is_white : ℕ → Bool
is_white c = c == 32 || (c == 9 || (c == 10 || c == 13))

abbrev pub is_empty : List ℕ → Bool
is_empty [] = true
is_empty (c ∷ cs) = false

-- a text without the white space that it begins with
abbrev pub trim_start : List ℕ → List ℕ
trim_start [] = []
trim_start (c ∷ cs) = if is_white c then trim_start cs else c ∷ cs

-- a text without the white space that it ends with
abbrev pub trim_end : List ℕ → List ℕ
trim_end [] = []
trim_end (c ∷ cs) = if is_white c && is_empty (trim_end cs) then [] else c ∷ trim_end cs

-- a text without white space at its ends
abbrev pub trim : List ℕ → List ℕ
trim text = trim_end (trim_start text)

-- the texts that stand directly in an element, joined; elements among them are skipped
abbrev pub direct_text : Forest → List ℕ
direct_text End = []
direct_text (Text_then t r) = t ++ direct_text r
direct_text (Element_then n a c r) = direct_text r

-- the text value of an element
abbrev pub text_value : Tree → List ℕ
text_value t = trim (direct_text t.children)

-- the elements that stand directly in an element, in order; text beside them is skipped
abbrev pub elements : Forest → List Tree
elements End = []
elements (Text_then t r) = elements r
elements (Element_then n a c r) = record { name = n; attributes = a; children = c } ∷ elements r

-- whether a name is that of a namespace and a local name (Namespaces in XML 1.0, section 2.1)
abbrev pub is_in : Option (List ℕ) → List ℕ → Bool
is_in None space = false
is_in (Some own) space = bytes_eq own space

abbrev pub is_named : QName → List ℕ → List ℕ → Bool
is_named name space local = is_in name.space space && bytes_eq name.local local

-- whether a name is a local name in no namespace
abbrev pub is_nowhere : Option (List ℕ) → Bool
is_nowhere None = true
is_nowhere (Some own) = false

abbrev pub is_unqualified : QName → List ℕ → Bool
is_unqualified name local = is_nowhere name.space && bytes_eq name.local local

-- the text value of an element's attribute of this name, where it has one
abbrev pub attribute : List Attribute → List ℕ → List ℕ → Option (List ℕ)
attribute [] space local = None
attribute (a ∷ more) space local = if is_named a.name space local then Some (trim a.value) else attribute more space local

-- the same of an attribute in no namespace
abbrev pub unqualified_attribute : List Attribute → List ℕ → Option (List ℕ)
unqualified_attribute [] local = None
unqualified_attribute (a ∷ more) local = if is_unqualified a.name local then Some (trim a.value) else unqualified_attribute more local
