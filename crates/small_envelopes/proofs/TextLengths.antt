-- A canonical text is no longer than what its tree weighs.
use Rattle.std.proofs.Common.{◌≡◌, ℕ, ◌+◌, ◌*◌, ◌≤◌, ◌==◌, Bool, true, false, ◌&&◌, if◌then◌else◌, List, map, [], ◌∷◌, ◌++◌, length, Option, Some, None, is_some, unwrap_or, nat_le, codes, decimal, arith, length-append, leb-true}
use Rattle.std.specs.List.{AllByRecursion, flat_map, fold, list_any, position_or_len}
use Rattle.std.specs.Str.{bytes_eq}
use Rattle.std.proofs.lemmas.Bool.{and_parts}
use Rattle.std.proofs.lemmas.List.{length-map}
use Rattle.xml_profile.specs.declared.name.Attribute.{Attribute}
use Rattle.xml_profile.specs.declared.name.QName.{QName}
use Rattle.xml_profile.specs.declared.tree.Tree.{Tree}
use Rattle.xml_profile.specs.CanonicalText.{attribute_text, canonical_text, content_text, declaration_text, declare, declared_by, end_text, equals_text, is_end, name_text, numbered_by, prefix_of, prefixed, spaces_in, spaces_of, start_text, text_byte, text_text, value_byte, value_text}
use Rattle.xml_profile.specs.Forest.{Forest}
use Rattle.xml_profile.specs.Forest.Forest.{End, Text_then, Element_then}
use Rattle.soap_profile.specs.BuiltElements.{children_of}
use Rattle.xml_profile.specs.Prefixes.{addressing, coordination, fixed_prefix, soap, transaction, work, xml}

-- in a namespace of at most 64 bytes that has a prefix of its own, or in none
abbrev pub is_known : Option (List ℕ) → Bool
is_known None = true
is_known (Some space) = is_some (fixed_prefix space) && nat_le (length space) 64

-- such a name, of at most 40 bytes
abbrev pub is_plain : QName → Bool
is_plain name = is_known name.space && nat_le (length name.local) 40

abbrev pub ArePlain : Forest → Type 0
ArePlain End = Unit {0}
ArePlain (Text_then t r) = ArePlain r
ArePlain (Element_then n a c r) = (is_plain n ≡ true) × AllByRecursion (λ (x : Attribute). is_plain x.name ≡ true) a × ArePlain c × ArePlain r

-- for each name its tags and a declaration, for each byte the longest reference
abbrev pub attributes_weight : List Attribute → ℕ
attributes_weight [] = 0
attributes_weight (a ∷ rest) = 460 + 6 * length a.value + attributes_weight rest

abbrev pub weight : Forest → ℕ
weight End = 0
weight (Text_then t r) = 5 * length t + weight r
weight (Element_then n a c r) = 500 + attributes_weight a + weight c + weight r

either_short : (most : ℕ) (b : Bool) (x y : List ℕ) → length x ≤ most → length y ≤ most → length (if b then x else y) ≤ most
either_short most true x y h k = h
either_short most false x y h k = k

-- of bytes

text_byte_short : (c : ℕ) → length (text_byte c) ≤ 5
text_byte_short c =
    either_short 5 (c == 38) (codes "&amp;") (if c == 60 then codes "&lt;" else if c == 62 then codes "&gt;" else if c == 13 then codes "&#13;" else c ∷ []) (omega arith)
    (either_short 5 (c == 60) (codes "&lt;") (if c == 62 then codes "&gt;" else if c == 13 then codes "&#13;" else c ∷ []) (omega arith)
    (either_short 5 (c == 62) (codes "&gt;") (if c == 13 then codes "&#13;" else c ∷ []) (omega arith)
    (either_short 5 (c == 13) (codes "&#13;") (c ∷ []) (omega arith) (omega arith))))

value_byte_short : (c : ℕ) → length (value_byte c) ≤ 6
value_byte_short c =
    either_short 6 (c == 34) (codes "&quot;") (if c == 9 then codes "&#9;" else if c == 10 then codes "&#10;" else text_byte c) (omega arith)
    (either_short 6 (c == 9) (codes "&#9;") (if c == 10 then codes "&#10;" else text_byte c) (omega arith)
    (either_short 6 (c == 10) (codes "&#10;") (text_byte c) (omega arith) (omega (arith, text_byte_short c))))

text_short : (text : List ℕ) → length (text_text text) ≤ 5 * length text
text_short [] = omega arith
text_short (c ∷ cs) = omega (arith, length-append (text_byte c) (text_text cs), text_byte_short c, text_short cs)

value_short : (text : List ℕ) → length (value_text text) ≤ 6 * length text
value_short [] = omega arith
value_short (c ∷ cs) = omega (arith, length-append (value_byte c) (value_text cs), value_byte_short c, value_short cs)

equals_short : (value : List ℕ) → length (equals_text value) ≤ 3 + 6 * length value
equals_short value = omega (arith, length-append (value_text value) (codes "\""), value_short value)

-- of names

abbrev Briefly : List ℕ → Option (List ℕ) → Type 0
Briefly other o = is_some o ≡ true → length (unwrap_or o other) ≤ 6

either_brief : (other : List ℕ) (b : Bool) (x y : Option (List ℕ)) → Briefly other x → Briefly other y → Briefly other (if b then x else y)
either_brief other true x y h k = h
either_brief other false x y h k = k

fixed_brief : (space other : List ℕ) → Briefly other (fixed_prefix space)
fixed_brief space other =
    either_brief other (bytes_eq space soap) (Some (codes "s"))
    (if bytes_eq space addressing then Some (codes "wsa") else if bytes_eq space coordination then Some (codes "wscoor") else if bytes_eq space transaction then Some (codes "wsat") else if bytes_eq space work then Some (codes "work") else if bytes_eq space xml then Some (codes "xml") else None) (λ e. omega arith)
    (either_brief other (bytes_eq space addressing) (Some (codes "wsa"))
    (if bytes_eq space coordination then Some (codes "wscoor") else if bytes_eq space transaction then Some (codes "wsat") else if bytes_eq space work then Some (codes "work") else if bytes_eq space xml then Some (codes "xml") else None) (λ e. omega arith)
    (either_brief other (bytes_eq space coordination) (Some (codes "wscoor"))
    (if bytes_eq space transaction then Some (codes "wsat") else if bytes_eq space work then Some (codes "work") else if bytes_eq space xml then Some (codes "xml") else None) (λ e. omega arith)
    (either_brief other (bytes_eq space transaction) (Some (codes "wsat"))
    (if bytes_eq space work then Some (codes "work") else if bytes_eq space xml then Some (codes "xml") else None) (λ e. omega arith)
    (either_brief other (bytes_eq space work) (Some (codes "work"))
    (if bytes_eq space xml then Some (codes "xml") else None) (λ e. omega arith)
    (either_brief other (bytes_eq space xml) (Some (codes "xml")) None (λ e. omega arith) (λ e. absurd cc))))))

module _ (numbered : List (List ℕ)) where
  prefix_short : (space : List ℕ) → is_some (fixed_prefix space) ≡ true → length (prefix_of numbered space) ≤ 6
  prefix_short space = fixed_brief space (codes "n" ++ decimal (position_or_len (bytes_eq space) numbered + 1))

  prefixed_short : (space : Option (List ℕ)) (local : List ℕ) → is_known space ≡ true → length (prefixed numbered space local) ≤ 7 + length local
  prefixed_short None local h = omega arith
  prefixed_short (Some space) local h =
      omega (arith, length-append (prefix_of numbered space) (codes ":" ++ local), prefix_short space (and_parts (is_some (fixed_prefix space)) (nat_le (length space) 64) h).0)

  name_short : (name : QName) → is_plain name ≡ true → length (name_text numbered name) ≤ 47
  name_short name h =
      let (known, local) = and_parts (is_known name.space) (nat_le (length name.local) 40) h in
      omega (arith, prefixed_short name.space name.local known, leb-true (length name.local) 40 local)

  -- of declarations

  abbrev declarations : List (List ℕ) → ℕ
  declarations spaces = length (flat_map (declaration_text numbered) spaces)

  declaration_short : (space : List ℕ) → is_known (Some space) ≡ true → length (declaration_text numbered space) ≤ 400
  declaration_short space h =
      let (fixed, short) = and_parts (is_some (fixed_prefix space)) (nat_le (length space) 64) h in
      omega (arith, length-append (prefix_of numbered space) (equals_text space), prefix_short space fixed, equals_short space, leb-true (length space) 64 short)

  one_more : (spaces : List (List ℕ)) (space : List ℕ) → is_known (Some space) ≡ true → declarations (spaces ++ space ∷ []) ≤ declarations spaces + 400
  one_more [] space h = omega (arith, length-append (declaration_text numbered space) [], declaration_short space h)
  one_more (s ∷ spaces) space h =
      omega (
        arith,
        length-append (declaration_text numbered s) (flat_map (declaration_text numbered) (spaces ++ space ∷ [])),
        length-append (declaration_text numbered s) (flat_map (declaration_text numbered) spaces),
        one_more spaces space h,
      )

  declare_short : (spaces : List (List ℕ)) (space : Option (List ℕ)) → is_known space ≡ true → declarations (declare spaces space) ≤ declarations spaces + 400
  declare_short spaces None h = omega arith
  declare_short spaces (Some space) h = by (bytes_eq space xml) (list_any (bytes_eq space) spaces)
    where
      by : (is_xml there : Bool) → declarations (if is_xml then spaces else if there then spaces else spaces ++ space ∷ []) ≤ declarations spaces + 400
      by true there = omega arith
      by false true = omega arith
      by false false = one_more spaces space h

  declared_short : (names : List (Option (List ℕ))) (spaces : List (List ℕ)) → AllByRecursion (λ s. is_known s ≡ true) names
      → declarations (fold declare spaces names) ≤ declarations spaces + 400 * length names
  declared_short [] spaces h = omega arith
  declared_short (name ∷ names) spaces (h, more) = omega (arith, declare_short spaces name h, declared_short names (declare spaces name) more)

  -- of tags

  attributes_short : (attributes : List Attribute) → AllByRecursion (λ (x : Attribute). is_plain x.name ≡ true) attributes
      → length (flat_map (attribute_text numbered) attributes) + 400 * length attributes ≤ attributes_weight attributes
  attributes_short [] h = omega arith
  attributes_short (a ∷ rest) (h, more) =
      omega (
        arith,
        length-append (attribute_text numbered a) (flat_map (attribute_text numbered) rest),
        length-append (name_text numbered a.name) (equals_text a.value),
        name_short a.name h,
        equals_short a.value,
        attributes_short rest more,
      )

  start_short : (declared : List (List ℕ)) (name : QName) (attributes : List Attribute) (children : Forest) → is_plain name ≡ true
      → AllByRecursion (λ (x : Attribute). is_plain x.name ≡ true) attributes
      → length (start_text numbered declared name attributes children) + 400 * length attributes ≤ 50 + declarations declared + attributes_weight attributes
  start_short declared name attributes children h k =
      omega (
        arith,
        length-append (name_text numbered name) (flat_map (declaration_text numbered) declared ++ (flat_map (attribute_text numbered) attributes ++ (if is_end children then codes "/>" else codes ">"))),
        name_short name h,
        length-append (flat_map (declaration_text numbered) declared) (flat_map (attribute_text numbered) attributes ++ (if is_end children then codes "/>" else codes ">")),
        length-append (flat_map (attribute_text numbered) attributes) (if is_end children then codes "/>" else codes ">"),
        attributes_short attributes k,
        either_short 2 (is_end children) (codes "/>") (codes ">") (omega arith) (omega arith),
      )

  end_short : (name : QName) (children : Forest) → is_plain name ≡ true → length (end_text numbered name children) ≤ 50
  end_short name children h =
      either_short 50 (is_end children) [] (codes "</" ++ (name_text numbered name ++ codes ">")) (omega arith)
      (omega (arith, length-append (name_text numbered name) (codes ">"), name_short name h))

  -- of contents, with room for a declaration of each name
  content_short : (f : Forest) → ArePlain f → length (content_text numbered f) + 400 * length (spaces_in f) ≤ weight f
  content_short End h = omega arith
  content_short (Text_then t r) h = omega (arith, length-append (text_text t) (content_text numbered r), text_short t, content_short r h)
  content_short (Element_then n a c r) (plain, attributes, inside, behind) =
      omega (
        arith,
        length-append (start_text numbered [] n a c) (content_text numbered c ++ (end_text numbered n c ++ content_text numbered r)),
        start_short [] n a c plain attributes,
        length-append (content_text numbered c) (end_text numbered n c ++ content_text numbered r),
        content_short c inside,
        length-append (end_text numbered n c) (content_text numbered r),
        end_short n c plain,
        content_short r behind,
        length-append (map (λ (x : Attribute). x.name.space) a) (spaces_in c ++ spaces_in r),
        length-append (spaces_in c) (spaces_in r),
        length-map a (λ (x : Attribute). x.name.space),
      )

abbrev AreKnown : List (Option (List ℕ)) → Type 0
AreKnown spaces = AllByRecursion (λ s. is_known s ≡ true) spaces

both_known : (xs ys : List (Option (List ℕ))) → AreKnown xs → AreKnown ys → AreKnown (xs ++ ys)
both_known [] ys h k = k
both_known (x ∷ xs) ys (h, more) k = (h, both_known xs ys more k)

attributes_known : (attributes : List Attribute) → AllByRecursion (λ (x : Attribute). is_plain x.name ≡ true) attributes
    → AreKnown (map (λ (x : Attribute). x.name.space) attributes)
attributes_known [] h = tt
attributes_known (a ∷ rest) (h, more) = ((and_parts (is_known a.name.space) (nat_le (length a.name.local) 40) h).0, attributes_known rest more)

spaces_known : (f : Forest) → ArePlain f → AreKnown (spaces_in f)
spaces_known End h = tt
spaces_known (Text_then t r) h = spaces_known r h
spaces_known (Element_then n a c r) (plain, attributes, inside, behind) = (
  (and_parts (is_known n.space) (nat_le (length n.local) 40) plain).0,
  both_known (map (λ (x : Attribute). x.name.space) a) (spaces_in c ++ spaces_in r) (attributes_known a attributes)
      (both_known (spaces_in c) (spaces_in r) (spaces_known c inside) (spaces_known r behind)),
)

tree_known : (t : Tree) → is_plain t.name ≡ true → AllByRecursion (λ (x : Attribute). is_plain x.name ≡ true) t.attributes → ArePlain t.children
    → AreKnown (spaces_of t)
tree_known t plain attributes inside = (
  (and_parts (is_known t.name.space) (nat_le (length t.name.local) 40) plain).0,
  both_known (map (λ (x : Attribute). x.name.space) t.attributes) (spaces_in t.children) (attributes_known t.attributes attributes) (spaces_known t.children inside),
)

-- a tree, as the only one of a list
pub canonical_short : (t : Tree) → ArePlain (children_of (t ∷ [])) → length (canonical_text t) ≤ weight (children_of (t ∷ []))
canonical_short t (plain, attributes, inside, none) =
    omega (
      arith,
      length-append (start_text (numbered_by t) (declared_by t) t.name t.attributes t.children) (content_text (numbered_by t) t.children ++ end_text (numbered_by t) t.name t.children),
      start_short (numbered_by t) (declared_by t) t.name t.attributes t.children plain attributes,
      length-append (content_text (numbered_by t) t.children) (end_text (numbered_by t) t.name t.children),
      content_short (numbered_by t) t.children inside,
      end_short (numbered_by t) t.name t.children plain,
      declared_short (numbered_by t) (spaces_of t) [] (tree_known t plain attributes inside),
      length-append (map (λ (x : Attribute). x.name.space) t.attributes) (spaces_in t.children),
      length-map t.attributes (λ (x : Attribute). x.name.space),
    )
