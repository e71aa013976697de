-- Declarations of namespaces, and what the names of a tag mean under them (Namespaces in XML 1.0).
use Rattle.std.specs.Prelude.{ℕ, List, [], ◌∷◌, ◌++◌, Bool, true, false, cond, not, ◌&&◌, ◌||◌, Option, Some, None, codes, encode_utf8_all}
use Rattle.xml_grammar.specs.Characters.{◌>>=◌, given, same, parts, Parts}
use Rattle.xml_grammar.specs.Tokens.{Pair, Tag}
use Rattle.xml_profile.specs.declared.name.QName.{QName}
use Rattle.xml_profile.specs.declared.name.Attribute.{Attribute}

abbrev pub xml_space : List ℕ
xml_space = codes "http://www.w3.org/XML/1998/namespace"

abbrev pub xmlns_space : List ℕ
xmlns_space = codes "http://www.w3.org/2000/xmlns/"

-- a prefix in code points, empty for the default namespace, and its namespace in UTF-8, empty for none
pub record Binding : Type 0 where
  pub prefix : List ℕ
  pub space : List ℕ

abbrev pub is_empty : {A : Type 0} → List A → Bool
is_empty [] = true
is_empty (x ∷ xs) = false

-- section 3 (reserved prefixes and namespace names) and section 5 (no prefix is undeclared)
abbrev pub may_bind : Binding → Bool
may_bind b =
    not (same b.prefix (codes "xmlns"))
    && cond (same b.prefix (codes "xml")) (same b.space xml_space)
    (not (same b.space xml_space) && not (same b.space xmlns_space) && (is_empty b.prefix || not (is_empty b.space)))

-- section 3: `xmlns` declares the default namespace, `xmlns:p` the prefix p. None where the pair is an attribute
abbrev pub declared_by : Parts → List ℕ → Option Binding
declared_by name value =
    cond (is_empty name.prefix && same name.local (codes "xmlns")) (Some (record { prefix = []; space = value }))
    (cond (same name.prefix (codes "xmlns")) (Some (record { prefix = name.local; space = value })) None)

-- an attribute with its name taken apart
pub record Spelled : Type 0 where
  pub name : Parts
  pub value : List ℕ

-- the declarations of a tag, and its attributes, each in order
pub record Sorted : Type 0 where
  pub declarations : List Binding
  pub attributes : List Spelled

abbrev pub sort_in : Parts → List ℕ → Option Binding → Sorted → Sorted
sort_in name value None s = record { declarations = s.declarations; attributes = record { name = name; value = value } ∷ s.attributes }
sort_in name value (Some b) s = record { declarations = b ∷ s.declarations; attributes = s.attributes }

abbrev pub sort : List Pair → Option Sorted
sort [] = Some (record { declarations = []; attributes = [] })
sort (p ∷ ps) = do
  name ← parts p.name
  rest ← sort ps
  Some (sort_in name p.value (declared_by name p.value) rest)

-- no earlier prefix is declared again: section 3, and XML 1.0, section 3.1, Unique Att Spec
abbrev pub declares : List ℕ → List Binding → Bool
declares prefix [] = false
declares prefix (b ∷ bs) = same prefix b.prefix || declares prefix bs

abbrev pub may_declare : List Binding → Bool
may_declare [] = true
may_declare (b ∷ bs) = may_bind b && not (declares b.prefix bs) && may_declare bs

abbrev pub or_else : {A : Type 0} → Option A → Option A → Option A
or_else None other = other
or_else (Some a) other = Some a

-- the namespace that the last declaration of a prefix gives it: section 6.1
abbrev pub lookup : List ℕ → List Binding → Option (List ℕ)
lookup prefix [] = None
lookup prefix (b ∷ bs) = or_else (lookup prefix bs) (cond (same prefix b.prefix) (Some b.space) None)

-- section 3: prefix xml is bound without a declaration
abbrev pub space_of : List Binding → List ℕ → Option (List ℕ)
space_of bs prefix = cond (same prefix (codes "xml")) (Some xml_space) (lookup prefix bs)

abbrev pub present : List ℕ → Option (List ℕ)
present [] = None
present (c ∷ cs) = Some (c ∷ cs)

abbrev pub defaulted : Option (List ℕ) → Option (List ℕ)
defaulted None = None
defaulted (Some space) = present space

-- section 6.1 and 6.2: an element's name without a prefix is in the default namespace, or in none
abbrev pub element_name : List Binding → Parts → Option QName
element_name bs name =
    cond (is_empty name.prefix) (Some (record { space = defaulted (lookup [] bs); local = encode_utf8_all name.local }))
    (space_of bs name.prefix >>= (λ s. Some (record { space = Some s; local = encode_utf8_all name.local })))

-- section 6.2: an attribute's name without a prefix is in none
abbrev pub attribute_name : List Binding → Parts → Option QName
attribute_name bs name =
    cond (is_empty name.prefix) (Some (record { space = None; local = encode_utf8_all name.local }))
    (space_of bs name.prefix >>= (λ s. Some (record { space = Some s; local = encode_utf8_all name.local })))

abbrev pub attributes_of : List Binding → List Spelled → Option (List Attribute)
attributes_of bs [] = Some []
attributes_of bs (a ∷ rest) = do
  name ← attribute_name bs a.name
  more ← attributes_of bs rest
  Some (record { name = name; value = a.value } ∷ more)

abbrev pub same_space : Option (List ℕ) → Option (List ℕ) → Bool
same_space None None = true
same_space None (Some t) = false
same_space (Some s) None = false
same_space (Some s) (Some t) = same s t

abbrev pub same_name : QName → QName → Bool
same_name m n = same m.local n.local && same_space m.space n.space

abbrev pub names : QName → List Attribute → Bool
names n [] = false
names n (a ∷ rest) = same_name n a.name || names n rest

-- section 6.3: no two attributes have equal expanded names
abbrev pub are_apart : List Attribute → Bool
are_apart [] = true
are_apart (a ∷ rest) = not (names a.name rest) && are_apart rest

-- what a tag means: the bindings inside its element, its name and its attributes
pub record Meaning : Type 0 where
  pub bindings : List Binding
  pub name : QName
  pub attributes : List Attribute

unfoldable pub means : List Binding → Tag → Option Meaning
means bs tag = do
  sorted ← sort tag.pairs
  _ ← given (may_declare sorted.declarations)
  name ← parts tag.name
  element ← element_name (bs ++ sorted.declarations) name
  attributes ← attributes_of (bs ++ sorted.declarations) sorted.attributes
  _ ← given (are_apart attributes)
  Some (record { bindings = bs ++ sorted.declarations; name = element; attributes = attributes })
