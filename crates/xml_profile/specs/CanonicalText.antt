-- The canonical text of a tree: one spelling for each tree (XML 1.0, section 3; Namespaces in XML 1.0, section 3).
use Rattle.std.specs.Prelude.{ℕ, List, [], ◌∷◌, ◌++◌, ◌+◌, ◌==◌, Bool, true, false, Option, Some, None, if◌then◌else◌, codes, decimal, map, is_some, unwrap_or}
use Rattle.std.specs.List.{fold, flat_map, list_any, position_or_len}
use Rattle.std.specs.Str.{bytes_eq}
use Rattle.xml_profile.specs.declared.name.QName.{QName}
use Rattle.xml_profile.specs.declared.name.Attribute.{Attribute}
use Rattle.xml_profile.specs.declared.tree.Tree.{Tree}
use Rattle.xml_profile.specs.Forest.{Forest}
use Rattle.xml_profile.specs.Forest.Forest.{End, Text_then, Element_then}
use Rattle.xml_profile.specs.Prefixes.{xml, fixed_prefix}

-- the namespaces, with one more behind them that isn't there yet
abbrev pub with_space : List (List ℕ) → List ℕ → List (List ℕ)
with_space spaces space = if list_any (bytes_eq space) spaces then spaces else spaces ++ space ∷ []

-- a name declares its namespace, unless it has none or is in that of xml, which is bound everywhere
abbrev pub declare : List (List ℕ) → Option (List ℕ) → List (List ℕ)
declare spaces None = spaces
declare spaces (Some space) = if bytes_eq space xml then spaces else with_space spaces space

-- a namespace without a fixed prefix has a number
abbrev pub enumerate : List (List ℕ) → Option (List ℕ) → List (List ℕ)
enumerate spaces None = spaces
enumerate spaces (Some space) = if is_some (fixed_prefix space) then spaces else with_space spaces space

-- the namespaces of the names of an element: its own, then its attributes' in order
abbrev pub spaces_at : QName → List Attribute → List (Option (List ℕ))
spaces_at name attributes = name.space ∷ map (λ a. a.name.space) attributes

-- the namespaces of all names, in document order
abbrev pub spaces_in : Forest → List (Option (List ℕ))
spaces_in End = []
spaces_in (Text_then t r) = spaces_in r
spaces_in (Element_then n a c r) = spaces_at n a ++ (spaces_in c ++ spaces_in r)

abbrev pub spaces_of : Tree → List (Option (List ℕ))
spaces_of t = spaces_at t.name t.attributes ++ spaces_in t.children

-- the namespaces that the root declares, in order of first use
abbrev pub declared_by : Tree → List (List ℕ)
declared_by t = fold declare [] (spaces_of t)

-- the namespaces that have a number for a prefix, in order of first use
abbrev pub numbered_by : Tree → List (List ℕ)
numbered_by t = fold enumerate [] (spaces_of t)

-- the fixed prefix, or n1, n2 and so on
abbrev pub prefix_of : List (List ℕ) → List ℕ → List ℕ
prefix_of numbered space = unwrap_or (fixed_prefix space) (codes "n" ++ decimal (position_or_len (bytes_eq space) numbered + 1))

abbrev pub prefixed : List (List ℕ) → Option (List ℕ) → List ℕ → List ℕ
prefixed numbered None local = local
prefixed numbered (Some space) local = prefix_of numbered space ++ (codes ":" ++ local)

abbrev pub name_text : List (List ℕ) → QName → List ℕ
name_text numbered name = prefixed numbered name.space name.local

-- a byte of a text: & < > and CR by reference (XML 1.0, sections 2.4 and 2.11)
abbrev pub text_byte : ℕ → List ℕ
text_byte c =
    if c == 38 then codes "&amp;"
    else if c == 60 then codes "&lt;"
    else if c == 62 then codes "&gt;"
    else if c == 13 then codes "&#13;"
    else c ∷ []

-- a byte of an attribute's value: also the quote, TAB and LF (XML 1.0, sections 2.3 and 3.3.3)
abbrev pub value_byte : ℕ → List ℕ
value_byte c =
    if c == 34 then codes "&quot;"
    else if c == 9 then codes "&#9;"
    else if c == 10 then codes "&#10;"
    else text_byte c

abbrev pub text_text : List ℕ → List ℕ
text_text = flat_map text_byte

abbrev pub value_text : List ℕ → List ℕ
value_text = flat_map value_byte

-- a value in its quotes, behind its name
abbrev pub equals_text : List ℕ → List ℕ
equals_text value = codes "=\"" ++ (value_text value ++ codes "\"")

abbrev pub declaration_text : List (List ℕ) → List ℕ → List ℕ
declaration_text numbered space = codes " xmlns:" ++ (prefix_of numbered space ++ equals_text space)

abbrev pub attribute_text : List (List ℕ) → Attribute → List ℕ
attribute_text numbered a = codes " " ++ (name_text numbered a.name ++ equals_text a.value)

abbrev pub is_end : Forest → Bool
is_end End = true
is_end (Text_then t r) = false
is_end (Element_then n a c r) = false

-- the start tag, which is an empty-element tag where there are no children
abbrev pub start_text : List (List ℕ) → List (List ℕ) → QName → List Attribute → Forest → List ℕ
start_text numbered declared n a c =
    codes "<" ++ (name_text numbered n ++ (flat_map (declaration_text numbered) declared
    ++ (flat_map (attribute_text numbered) a ++ (if is_end c then codes "/>" else codes ">"))))

-- the end tag, where there are children
abbrev pub end_text : List (List ℕ) → QName → Forest → List ℕ
end_text numbered n c = if is_end c then [] else codes "</" ++ (name_text numbered n ++ codes ">")

abbrev pub content_text : List (List ℕ) → Forest → List ℕ
content_text numbered End = []
content_text numbered (Text_then t r) = text_text t ++ content_text numbered r
content_text numbered (Element_then n a c r) =
    start_text numbered [] n a c ++ (content_text numbered c ++ (end_text numbered n c ++ content_text numbered r))

-- the whole, its root declaring each namespace that a name uses
abbrev pub canonical_text : Tree → List ℕ
canonical_text t =
    start_text (numbered_by t) (declared_by t) t.name t.attributes t.children
    ++ (content_text (numbered_by t) t.children ++ end_text (numbered_by t) t.name t.children)
