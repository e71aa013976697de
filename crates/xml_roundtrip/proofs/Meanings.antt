-- What the tags of a canonical text mean.
use lib.Utf8.{encode}
use Rattle.std.proofs.Common.{◌≡◌, refl, sym, subst, ap, ap₂, ◌∙◌, ℕ, ◌^◌, ◌<◌, List, [], ◌∷◌, ◌++◌, append-nil, length, map, Bool, true, false, not, cond, ◌&&◌, ◌||◌, Option, Some, None, codes, chars, is_none, encode_utf8_all, IsUtf8}
use Rattle.std.specs.List.{list_all, list_any, AllByRecursion}
use Rattle.std.specs.Str.{bytes_eq, is_utf8}
use Rattle.std.proofs.lemmas.Slice.Eq.{bytes_eq-Decides}
use Rattle.std.proofs.lemmas.Str.{IsUtf8-from_is_utf8}
use Rattle.at_base.specs.Chars.{is_xml_char}
use Rattle.xml_profile.specs.declared.name.QName.{QName}
use Rattle.xml_profile.specs.declared.name.Attribute.{Attribute}
use Rattle.xml_profile.specs.Prefixes.{xml, xmlns}
use Rattle.xml_profile.specs.CanonicalText.{prefix_of, prefixed}
use Rattle.xml_profile.specs.Declarations.{is_declared, has_prefix}
use Rattle.xml_profile.specs.SpellableTrees as spellable
use Rattle.xml_grammar.specs.Characters.{◌>>=◌, same, Parts, parts}
use Rattle.xml_grammar.specs.Tokens.{Pair, Tag}
use Rattle.xml_grammar.specs.Namespaces.{Binding, is_empty, Spelled, Sorted, declared_by, sort_in, sort, may_declare, lookup, space_of, defaulted, element_name, attribute_name, attributes_of, same_space, same_name, names, are_apart, Meaning, means}
use Rattle.xml_grammar.proofs.StepLaws.{same_is}
use Rattle.xml_roundtrip.proofs.Bools.{and_true, not_true, apart, false_unless}
use Rattle.xml_roundtrip.proofs.Names.{Named, named_alone, named_within, is_prefix, IsLocal, is_local}
use Rattle.xml_roundtrip.proofs.Tags.{IsPair}
use Rattle.xml_roundtrip.proofs.CanonicalCharacters.{name_chars, declaration, attribute}
use Rattle.xml_roundtrip.proofs.Bindings.{bindings, same_bytes, binding, may_name, Declares, no_default, space_found, may_stand}

-- Names

abbrev pub parts_within : List (List ℕ) → Option (List ℕ) → List ℕ → Parts
parts_within numbered None local = record { prefix = []; local = chars local }
parts_within numbered (Some s) local = record { prefix = prefix_of numbered s; local = chars local }

abbrev pub parts_of : List (List ℕ) → QName → Parts
parts_of numbered n = parts_within numbered n.space n.local

pub name_stands_apart : (numbered : List (List ℕ)) → length numbered < 2 ^ 63 → (n : QName) → spellable.is_name n ≡ true → Named (name_chars numbered n) (parts_of numbered n)
name_stands_apart numbered small n h = by_case n.space
  where
    local : IsLocal n.local
    local = is_local n.local (and_true (spellable.is_space_or_none n.space) (spellable.is_part n.local) h).1

    by_case : (space : Option (List ℕ)) → Named (prefixed numbered space (chars n.local)) (parts_within numbered space n.local)
    by_case None = named_alone (chars n.local) local.part
    by_case (Some s) = named_within (prefix_of numbered s) (chars n.local) (is_prefix numbered small s).part local.part

abbrev pub is_known : List (List ℕ) → List (List ℕ) → Option (List ℕ) → Bool
is_known numbered declared o = is_declared declared o && has_prefix numbered o

local_back : (n : QName) → spellable.is_name n ≡ true → encode_utf8_all (chars n.local) ≡ n.local
local_back n h = (is_local n.local (and_true (spellable.is_space_or_none n.space) (spellable.is_part n.local) h).1).written.encoded

abbrev pub spelled : List (List ℕ) → Attribute → Spelled
spelled numbered a = record { name = parts_of numbered a.name; value = a.value }

abbrev named : QName → List ℕ → List Attribute → List Attribute
named name value more = record { name = name; value = value } ∷ more

abbrev qname : Option (List ℕ) → List ℕ → QName
qname space local = record { space = space; local = local }

module _ (numbered declared : List (List ℕ)) (d : Declares numbered declared) where
  found_within : (s local : List ℕ) → is_known numbered declared (Some s) ≡ true → encode_utf8_all (chars local) ≡ local → (o : Option QName)
      → cond (is_empty (prefix_of numbered s)) o (space_of (bindings numbered declared) (prefix_of numbered s) >>= (λ s. Some (qname (Some s) (encode_utf8_all (chars local))))) ≡ Some (qname (Some s) local)
  found_within s local k e o =
      let (a, b) = and_true (is_declared declared (Some s)) (has_prefix numbered (Some s)) k in
      ap (λ b. cond b o (space_of (bindings numbered declared) (prefix_of numbered s) >>= (λ s. Some (qname (Some s) (encode_utf8_all (chars local)))))) (is_prefix numbered d.small s).some
      ∙ (ap (λ o. o >>= (λ s. Some (qname (Some s) (encode_utf8_all (chars local))))) (space_found numbered declared d s a b) ∙ ap (λ v. Some (qname (Some s) v)) e)

  element_in : (space : Option (List ℕ)) (local : List ℕ) → is_known numbered declared space ≡ true → encode_utf8_all (chars local) ≡ local
      → element_name (bindings numbered declared) (parts_within numbered space local) ≡ Some (qname space local)
  element_in None local k e = ap₂ (λ o v. Some (qname (defaulted o) v)) (no_default numbered d.small declared) e
  element_in (Some s) local k e = found_within s local k e (Some (qname (defaulted (lookup [] (bindings numbered declared))) (encode_utf8_all (chars local))))

  attribute_in : (space : Option (List ℕ)) (local : List ℕ) → is_known numbered declared space ≡ true → encode_utf8_all (chars local) ≡ local
      → attribute_name (bindings numbered declared) (parts_within numbered space local) ≡ Some (qname space local)
  attribute_in None local k e = ap (λ v. Some (qname None v)) e
  attribute_in (Some s) local k e = found_within s local k e (Some (qname None (encode_utf8_all (chars local))))

  pub element_named : (n : QName) → spellable.is_name n ≡ true → is_known numbered declared n.space ≡ true → element_name (bindings numbered declared) (parts_of numbered n) ≡ Some n
  element_named n h k = element_in n.space n.local k (local_back n h)

  attribute_named : (n : QName) → spellable.is_name n ≡ true → is_known numbered declared n.space ≡ true → attribute_name (bindings numbered declared) (parts_of numbered n) ≡ Some n
  attribute_named n h k = attribute_in n.space n.local k (local_back n h)

  -- the attributes of a tag
  pub attributes_named : (ats : List Attribute) → list_all spellable.is_attribute ats ≡ true → list_all (is_known numbered declared) (map (λ a. a.name.space) ats) ≡ true
      → attributes_of (bindings numbered declared) (map (spelled numbered) ats) ≡ Some ats
  attributes_named [] h k = refl
  attributes_named (a ∷ ats) h k =
      let (x, y) = and_true (spellable.is_attribute a) (list_all spellable.is_attribute ats) h in
      let (u, v) = and_true (is_known numbered declared a.name.space) (list_all (is_known numbered declared) (map (λ a. a.name.space) ats)) k in
      let (w, z) = and_true (spellable.is_name a.name) (not (spellable.is_declaration a.name) && spellable.is_text a.value) x in
      ap (λ o. o >>= (λ name. attributes_of (bindings numbered declared) (map (spelled numbered) ats) >>= (λ more. Some (named name a.value more)))) (attribute_named a.name w u)
      ∙ ap (λ o. o >>= (λ more. Some (named a.name a.value more))) (attributes_named ats y v)

-- Declarations and attributes, sorted

utf8_of : (t : List ℕ) → spellable.is_text t ≡ true → IsUtf8 t
utf8_of t h = IsUtf8-from_is_utf8 t (and_true (is_utf8 t) (list_all is_xml_char (chars t)) h).0

abbrev bind : List ℕ → List ℕ → Binding
bind prefix space = record { prefix = prefix; space = space }

abbrev sorted : List Binding → List Spelled → Sorted
sorted ds ats = record { declarations = ds; attributes = ats }

declaration_named : (numbered : List (List ℕ)) → length numbered < 2 ^ 63 → (s : List ℕ) → Named (codes "xmlns:" ++ prefix_of numbered s) (record { prefix = codes "xmlns"; local = prefix_of numbered s })
declaration_named numbered small s = named_within (codes "xmlns") (prefix_of numbered s) refl (is_prefix numbered small s).part

xmlns_back : encode_utf8_all (codes "xmlns") ≡ codes "xmlns"
unfolding encode
xmlns_back = refl

-- a name that isn't that of a declaration
no_declaration : (numbered : List (List ℕ)) → length numbered < 2 ^ 63 → (n : QName) → spellable.is_name n ≡ true → spellable.is_declaration n ≡ false → (value : List ℕ)
    → declared_by (parts_of numbered n) value ≡ None
no_declaration numbered small n h k value = by_case n.space k
  where
    no_xmlns : bytes_eq n.local (codes "xmlns") ≡ false → same (chars n.local) (codes "xmlns") ≡ false
    no_xmlns e = false_unless (same (chars n.local) (codes "xmlns"))
        (λ f. apart (bytes_eq n.local (codes "xmlns")) ((bytes_eq-Decides n.local (codes "xmlns")).1 (sym (local_back n h) ∙ (ap encode_utf8_all (same_is (chars n.local) (codes "xmlns") f) ∙ xmlns_back))) e)

    by_case : (space : Option (List ℕ)) → (is_none space && bytes_eq n.local (codes "xmlns")) ≡ false → declared_by (parts_within numbered space n.local) value ≡ None
    by_case None e = ap (λ b. cond b (Some (bind [] value)) None) (no_xmlns e)
    by_case (Some s) e =
        let p = is_prefix numbered small s in
        ap (λ b. cond (b && same (chars n.local) (codes "xmlns")) (Some (bind [] value)) (cond (same (prefix_of numbered s) (codes "xmlns")) (Some (bind (chars n.local) value)) None)) p.some
        ∙ ap (λ b. cond b (Some (bind (chars n.local) value)) None) p.no_xmlns

sort_first : (p : Pair) (ps : List Pair) (name : Parts) (rest : Sorted) (b : Option Binding) → parts p.name ≡ Some name → sort ps ≡ Some rest → declared_by name p.value ≡ b
    → sort (p ∷ ps) ≡ Some (sort_in name p.value b rest)
sort_first p ps name rest b e f g =
    ap (λ o. o >>= (λ name. sort ps >>= (λ rest. Some (sort_in name p.value (declared_by name p.value) rest)))) e
    ∙ (ap (λ o. o >>= (λ rest. Some (sort_in name p.value (declared_by name p.value) rest))) f ∙ ap (λ b. Some (sort_in name p.value b rest)) g)

sort_attributes : (numbered : List (List ℕ)) → length numbered < 2 ^ 63 → (ats : List Attribute) → list_all spellable.is_attribute ats ≡ true → sort (map (attribute numbered) ats) ≡ Some (sorted [] (map (spelled numbered) ats))
sort_attributes numbered small [] h = refl
sort_attributes numbered small (a ∷ ats) h =
    let (x, y) = and_true (spellable.is_attribute a) (list_all spellable.is_attribute ats) h in
    let (w, z) = and_true (spellable.is_name a.name) (not (spellable.is_declaration a.name) && spellable.is_text a.value) x in
    let (u, v) = and_true (not (spellable.is_declaration a.name)) (spellable.is_text a.value) z in
    sort_first (attribute numbered a) (map (attribute numbered) ats) (parts_of numbered a.name) (sorted [] (map (spelled numbered) ats)) None
    (name_stands_apart numbered small a.name w).apart (sort_attributes numbered small ats y) (no_declaration numbered small a.name w (not_true (spellable.is_declaration a.name) u) a.value)

sort_all : (numbered : List (List ℕ)) → length numbered < 2 ^ 63 → (ds : List (List ℕ)) (ats : List Attribute) → list_all spellable.is_attribute ats ≡ true
    → sort (map (declaration numbered) ds ++ map (attribute numbered) ats) ≡ Some (sorted (bindings numbered ds) (map (spelled numbered) ats))
sort_all numbered small [] ats h = sort_attributes numbered small ats h
sort_all numbered small (s ∷ ds) ats h =
    sort_first (declaration numbered s) (map (declaration numbered) ds ++ map (attribute numbered) ats) (record { prefix = codes "xmlns"; local = prefix_of numbered s })
    (sorted (bindings numbered ds) (map (spelled numbered) ats)) (Some (binding numbered s))
    (declaration_named numbered small s).apart (sort_all numbered small ds ats h) refl

-- Attributes with names of their own

same_spaces : (a b : Option (List ℕ)) → same_space a b ≡ spellable.same_space a b
same_spaces None None = refl
same_spaces None (Some t) = refl
same_spaces (Some s) None = refl
same_spaces (Some s) (Some t) = same_bytes s t

swapped : (a b : Bool) → (a && b) ≡ (b && a)
swapped true true = refl
swapped true false = refl
swapped false true = refl
swapped false false = refl

same_names : (m n : QName) → same_name m n ≡ spellable.same_name m n
same_names m n = ap₂ (λ a b. a && b) (same_bytes m.local n.local) (same_spaces m.space n.space) ∙ swapped (bytes_eq m.local n.local) (spellable.same_space m.space n.space)

among : (n : QName) (ats : List Attribute) → names n ats ≡ list_any (λ b. spellable.same_name n b.name) ats
among n [] = refl
among n (a ∷ ats) = ap₂ (λ x y. x || y) (same_names n a.name) (among n ats)

pub all_apart : (ats : List Attribute) → are_apart ats ≡ spellable.are_apart ats
all_apart [] = refl
all_apart (a ∷ ats) = ap₂ (λ x y. not x && y) (among a.name ats) (all_apart ats)

-- The meaning of a tag

abbrev pub meaning : List Binding → QName → List Attribute → Meaning
meaning bs n ats = record { bindings = bs; name = n; attributes = ats }

means_so : (bs : List Binding) (tag : Tag) (ds : List Binding) (spelled : List Spelled) (name : Parts) (n : QName) (ats : List Attribute) → sort tag.pairs ≡ Some (sorted ds spelled) → may_declare ds ≡ true
    → parts tag.name ≡ Some name → element_name (bs ++ ds) name ≡ Some n → attributes_of (bs ++ ds) spelled ≡ Some ats → are_apart ats ≡ true → means bs tag ≡ Some (meaning (bs ++ ds) n ats)
unfolding means
means_so bs tag ds spelled name n ats e f g h i j = rw (e, f, g, h, i, j) refl

-- what a name, and what a tag has to be
pub record IsTag (numbered declared : List (List ℕ)) (n : QName) (ats : List Attribute) : Type 0 where
  pub name : spellable.is_name n ≡ true
  pub attributes : list_all spellable.is_attribute ats ≡ true
  pub separate : spellable.are_apart ats ≡ true
  pub known : is_known numbered declared n.space ≡ true
  pub all_known : list_all (is_known numbered declared) (map (λ a. a.name.space) ats) ≡ true

module _ (numbered declared : List (List ℕ)) (d : Declares numbered declared) (n : QName) (ats : List Attribute) (t : IsTag numbered declared n ats) where
  -- the root's tag
  pub root_means : (empty : Bool) → means [] (record { name = name_chars numbered n; pairs = map (declaration numbered) declared ++ map (attribute numbered) ats; is_empty = empty }) ≡ Some (meaning (bindings numbered declared) n ats)
  root_means empty =
      means_so [] (record { name = name_chars numbered n; pairs = map (declaration numbered) declared ++ map (attribute numbered) ats; is_empty = empty })
      (bindings numbered declared) (map (spelled numbered) ats) (parts_of numbered n) n ats
      (sort_all numbered d.small declared ats t.attributes) (may_stand numbered d.small d.differ declared d.once d.all_named) (name_stands_apart numbered d.small n t.name).apart
      (element_named numbered declared d n t.name t.known) (attributes_named numbered declared d ats t.attributes t.all_known) (all_apart ats ∙ t.separate)

  -- a tag below the root
  pub inner_means : (empty : Bool) → means (bindings numbered declared) (record { name = name_chars numbered n; pairs = map (attribute numbered) ats; is_empty = empty }) ≡ Some (meaning (bindings numbered declared) n ats)
  inner_means empty =
      let nothing : bindings numbered declared ++ [] ≡ bindings numbered declared = append-nil (bindings numbered declared) in
      means_so (bindings numbered declared) (record { name = name_chars numbered n; pairs = map (attribute numbered) ats; is_empty = empty })
      [] (map (spelled numbered) ats) (parts_of numbered n) n ats
      (sort_attributes numbered d.small ats t.attributes) refl (name_stands_apart numbered d.small n t.name).apart
      (subst (λ bs. element_name bs (parts_of numbered n) ≡ Some n) (sym nothing) (element_named numbered declared d n t.name t.known))
      (subst (λ bs. attributes_of bs (map (spelled numbered) ats) ≡ Some ats) (sym nothing) (attributes_named numbered declared d ats t.attributes t.all_known)) (all_apart ats ∙ t.separate)
      ∙ ap (λ bs. Some (meaning bs n ats)) nothing

  attribute_pairs : (ats : List Attribute) → list_all spellable.is_attribute ats ≡ true → AllByRecursion IsPair (map (attribute numbered) ats)
  attribute_pairs [] h = tt
  attribute_pairs (a ∷ ats) h =
      let (x, y) = and_true (spellable.is_attribute a) (list_all spellable.is_attribute ats) h in
      let (w, z) = and_true (spellable.is_name a.name) (not (spellable.is_declaration a.name) && spellable.is_text a.value) x in
      let (u, v) = and_true (not (spellable.is_declaration a.name)) (spellable.is_text a.value) z in
      (record { parts = parts_of numbered a.name; named = name_stands_apart numbered d.small a.name w; utf8 = utf8_of a.value v }, attribute_pairs ats y)

  all_pairs : (ds : List (List ℕ)) → list_all (may_name numbered) ds ≡ true → AllByRecursion IsPair (map (declaration numbered) ds ++ map (attribute numbered) ats)
  all_pairs [] h = attribute_pairs ats t.attributes
  all_pairs (s ∷ ds) h =
      let (x, y) = and_true (may_name numbered s) (list_all (may_name numbered) ds) h in
      let (a, b) = and_true (not (bytes_eq s xml)) (spellable.is_space s && has_prefix numbered (Some s)) x in
      let (u, v) = and_true (spellable.is_space s) (has_prefix numbered (Some s)) b in
      let (e, f) = and_true (not (spellable.is_empty s)) (not (bytes_eq s xmlns) && spellable.is_text s) u in
      let (i, j) = and_true (not (bytes_eq s xmlns)) (spellable.is_text s) f in
      (record { parts = record { prefix = codes "xmlns"; local = prefix_of numbered s }; named = declaration_named numbered d.small s; utf8 = utf8_of s j }, all_pairs ds y)

  pub root_pairs : AllByRecursion IsPair (map (declaration numbered) declared ++ map (attribute numbered) ats)
  root_pairs = all_pairs declared d.all_named

  pub inner_pairs : AllByRecursion IsPair (map (attribute numbered) ats)
  inner_pairs = attribute_pairs ats t.attributes
