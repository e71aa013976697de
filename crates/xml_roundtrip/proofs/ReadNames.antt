-- The names and attributes that are read can be spelled.
use lib.Utf8.{encode}
use Rattle.std.proofs.Common.{◌≡◌, refl, sym, subst, ap, ◌∙◌, arith, ℕ, ◌≤◌, List, [], ◌∷◌, ◌++◌, length, take, drop, take-append-drop, Bool, true, false, not, cond, ◌&&◌, ◌||◌, nat_eq, nat_le, ltb, Option, Some, None, is_none, codes, encode_utf8, encode_utf8_all}
use Rattle.std.specs.List.{list_all, prefix_len, AllByRecursion}
use Rattle.std.specs.Str.{bytes_eq, chars, is_utf8}
use Rattle.std.proofs.lemmas.Bool.{leb-true, ltb-true, ltb-false}
use Rattle.std.proofs.lemmas.Slice.Eq.{bytes_eq-Decides}
use Rattle.std.proofs.lemmas.Str.{encode_ascii, length-encode, len_utf8_bounds}
use Rattle.at_base.specs.Chars.{is_xml_char}
use Rattle.xml_profile.specs.declared.name.QName.{QName}
use Rattle.xml_profile.specs.declared.name.Attribute.{Attribute}
use Rattle.xml_profile.specs.Prefixes.{xml, xmlns}
use Rattle.xml_profile.specs.SpellableTrees as spellable
use Rattle.xml_grammar.specs.Characters.{◌>>=◌, given, same, begins_part, continues_part, Parts, is_part, parts_before, parts}
use Rattle.xml_grammar.specs.Tokens.{Pair, Tag}
use Rattle.xml_grammar.specs.Namespaces.{xml_space, xmlns_space, Binding, is_empty, may_bind, declared_by, Spelled, Sorted, sort_in, sort, declares, may_declare, or_else, lookup, space_of, defaulted, element_name, attribute_name, attributes_of, are_apart, Meaning, means}
use Rattle.xml_grammar.proofs.TokenLaws.{bind_some}
use Rattle.xml_grammar.proofs.StepLaws.{same_is}
use Rattle.xml_roundtrip.proofs.Bools.{and_true, both_true, not_true, not_false, apart, false_unless, all_parts, differs, higher}
use Rattle.xml_roundtrip.proofs.CanonicalBytes.{high_bytes}
use Rattle.xml_roundtrip.proofs.Names.{all_continue}
use Rattle.xml_roundtrip.proofs.Bindings.{same_bytes}
use Rattle.xml_roundtrip.proofs.Meanings.{all_apart}
use Rattle.xml_roundtrip.proofs.ReadCharacters.{Fine, FinePair, FineTag, is_text, chars_back, utf8_back}

-- Parts of names

pub record LocalPart (p : Parts) : Type 0 where
  pub part : is_part p.local ≡ true
  pub fine : Fine p.local

some_parts : (p q : Parts) → Some p ≡ Some q → LocalPart p → LocalPart q
some_parts p q e h = let i : p ≡ q = cc in subst LocalPart i h

before_local : (n rest : List ℕ) (p : Parts) → parts_before n rest ≡ Some p → Fine n → Fine rest → LocalPart p
before_local n [] p e h k = by_case (is_part n) refl e
  where
    by_case : (b : Bool) → is_part n ≡ b → cond b (Some (record { prefix = []; local = n })) None ≡ Some p → LocalPart p
    by_case true f e = some_parts (record { prefix = []; local = n }) p e (record { part = f; fine = h })
    by_case false f e = cc
before_local n (c ∷ cs) p e h k = by_case (is_part n && is_part cs) refl e
  where
    by_case : (b : Bool) → (is_part n && is_part cs) ≡ b → cond b (Some (record { prefix = n; local = cs })) None ≡ Some p → LocalPart p
    by_case true f e =
        some_parts (record { prefix = n; local = cs }) p e (record { part = (and_true (is_part n) (is_part cs) f).1; fine = (and_true (is_xml_char c) (list_all is_xml_char cs) k).1 })
    by_case false f e = cc

parts_local : (n : List ℕ) (p : Parts) → parts n ≡ Some p → Fine n → LocalPart p
parts_local n p e h =
    let k = prefix_len (λ c. not (nat_eq c 58)) n in
    let (x, y) = all_parts is_xml_char (take k n) (drop k n) (subst (λ v. list_all is_xml_char v ≡ true) (sym (take-append-drop k n)) h) in
    before_local (take k n) (drop k n) p e x y

continues_char : (c : ℕ) → continues_part c ≡ true → is_xml_char c ≡ true → spellable.is_part_char c ≡ true
continues_char c h k = by_case (nat_le 97 c && nat_le c 122) (nat_le 65 c && nat_le c 90) (nat_le 48 c && nat_le c 57) (nat_eq c 95) (nat_eq c 45) (nat_eq c 46) (nat_le 128 c) (is_xml_char c) k h
  where
    by_case : (low up digit line dash dot high xml : Bool) → xml ≡ true → (((up || low) || line || high) || digit || dash || dot) ≡ true → (low || up || digit || line || dash || dot || (high && xml)) ≡ true
    by_case true up digit line dash dot high xml k h = refl
    by_case false true digit line dash dot high xml k h = refl
    by_case false false true line dash dot high xml k h = refl
    by_case false false false true dash dot high xml k h = refl
    by_case false false false false true dot high xml k h = refl
    by_case false false false false false true high xml k h = refl
    by_case false false false false false false true xml k h = k
    by_case false false false false false false false xml k h = cc

-- no digit, `-` or `.`
abbrev may_begin : ℕ → Bool
may_begin b = not ((nat_le 48 b && nat_le b 57) || nat_eq b 45 || nat_eq b 46)

begins_none : (x y z : Bool) → x ≡ false → y ≡ false → z ≡ false → not (x || y || z) ≡ true
begins_none x y z a b c = rw (a, b, c) refl

high_begins : (b : ℕ) → 128 ≤ b → may_begin b ≡ true
high_begins b h =
    let e : (nat_le 48 b && nat_le b 57) ≡ false = false_unless (nat_le 48 b && nat_le b 57) (λ k. let l = leb-true b 57 (and_true (nat_le 48 b) (nat_le b 57) k).1 in absurd (omega arith)) in
    begins_none (nat_le 48 b && nat_le b 57) (nat_eq b 45) (nat_eq b 46) e (higher 45 b (omega arith) h) (higher 46 b (omega arith) h)

-- what begins a part is no digit
no_digit : (c : ℕ) → begins_part c ≡ true → (nat_le 48 c && nat_le c 57) ≡ false
no_digit c h = false_unless (nat_le 48 c && nat_le c 57) wrong
  where
    out : (up1 up2 low1 low2 line high : Bool) → up1 ≡ false → low1 ≡ false → line ≡ false → high ≡ false → (((up1 && up2) || (low1 && low2)) || line || high) ≡ true → ⊥
    out up1 up2 low1 low2 line high a b c d h = let k : (((up1 && up2) || (low1 && low2)) || line || high) ≡ false = rw (a, b, c, d) refl in apart (((up1 && up2) || (low1 && low2)) || line || high) h k

    wrong : (nat_le 48 c && nat_le c 57) ≡ true → ⊥
    wrong k =
        let (x, y) = and_true (nat_le 48 c) (nat_le c 57) k in
        let l = leb-true c 57 y in
        out (nat_le 65 c) (nat_le c 90) (nat_le 97 c) (nat_le c 122) (nat_eq c 95) (nat_le 128 c)
        (false_unless (nat_le 65 c) (λ i. let j = leb-true 65 c i in absurd (omega arith)))
        (false_unless (nat_le 97 c) (λ i. let j = leb-true 97 c i in absurd (omega arith)))
        (differs (λ v. nat_le v 57) 95 c refl y)
        (false_unless (nat_le 128 c) (λ i. let j = leb-true 128 c i in absurd (omega arith))) h

char_begins : (c : ℕ) → begins_part c ≡ true → may_begin c ≡ true
char_begins c h = begins_none (nat_le 48 c && nat_le c 57) (nat_eq c 45) (nat_eq c 46) (no_digit c h) (differs begins_part 45 c refl h) (differs begins_part 46 c refl h)

bytes_begin : (c : ℕ) (rest : List ℕ) → begins_part c ≡ true → spellable.begins_part (encode_utf8 c ++ rest) ≡ true
bytes_begin c rest h = by_size (ltb c 128) refl
  where
    first_high : (bs : List ℕ) → 1 ≤ length bs → list_all (nat_le 128) bs ≡ true → spellable.begins_part (bs ++ rest) ≡ true
    first_high [] e k = absurd (omega arith)
    first_high (b ∷ bs) e k = high_begins b (leb-true 128 b (and_true (nat_le 128 b) (list_all (nat_le 128) bs) k).0)

    by_size : (b : Bool) → ltb c 128 ≡ b → spellable.begins_part (encode_utf8 c ++ rest) ≡ true
    by_size true e = subst (λ v. spellable.begins_part (v ++ rest) ≡ true) (sym (encode_ascii c (ltb-true c 128 e))) (char_begins c h)
    by_size false e = first_high (encode_utf8 c) (omega (arith, length-encode c, len_utf8_bounds c)) (high_bytes c (ltb-false c 128 e))

all_two : (p q r : ℕ → Bool) → ((c : ℕ) → p c ≡ true → q c ≡ true → r c ≡ true) → (cs : List ℕ) → list_all p cs ≡ true → list_all q cs ≡ true → list_all r cs ≡ true
all_two p q r f [] h k = refl
all_two p q r f (c ∷ cs) h k =
    let (a, b) = and_true (p c) (list_all p cs) h in
    let (x, y) = and_true (q c) (list_all q cs) k in
    both_true (r c) (list_all r cs) (f c a x) (all_two p q r f cs b y)

pub part_spelled : (cs : List ℕ) → is_part cs ≡ true → Fine cs → spellable.is_part (encode_utf8_all cs) ≡ true
part_spelled cs h k =
    let e : list_all spellable.is_part_char (chars (encode_utf8_all cs)) ≡ true =
    ap (list_all spellable.is_part_char) (chars_back cs k) ∙ all_two continues_part is_xml_char spellable.is_part_char continues_char cs (all_continue cs h) k in
    both_true (spellable.begins_part (encode_utf8_all cs)) (spellable.has_part_chars (encode_utf8_all cs)) (begins cs h)
    (both_true (is_utf8 (encode_utf8_all cs)) (list_all spellable.is_part_char (chars (encode_utf8_all cs))) (utf8_back cs k) e)
  where
    begins : (cs : List ℕ) → is_part cs ≡ true → spellable.begins_part (encode_utf8_all cs) ≡ true
    begins [] h = cc
    begins (c ∷ cs) h = bytes_begin c (encode_utf8_all cs) (and_true (begins_part c) (list_all continues_part cs) h).0

-- Bindings

pub record Sound (b : Binding) : Type 0 where
  pub text : spellable.is_text b.space ≡ true
  pub other : bytes_eq b.space xmlns ≡ false
  pub some : (is_empty b.prefix || not (is_empty b.space)) ≡ true

abbrev IsTextOf : Binding → Type 0
IsTextOf b = spellable.is_text b.space ≡ true

or_right : (a b : Bool) → b ≡ true → (a || b) ≡ true
or_right true b h = refl
or_right false b h = h

bound_well : (b : Binding) → spellable.is_text b.space ≡ true → may_bind b ≡ true → Sound b
bound_well b t h =
    let (x, y) = and_true (not (same b.prefix (codes "xmlns"))) (cond (same b.prefix (codes "xml")) (same b.space xml_space) (not (same b.space xml_space) && not (same b.space xmlns_space) && (is_empty b.prefix || not (is_empty b.space)))) h in
    by_case (same b.prefix (codes "xml")) y
  where
    as_xml : (space : List ℕ) → xml ≡ space → (bytes_eq space xmlns ≡ false) × ((is_empty b.prefix || not (is_empty space)) ≡ true)
    as_xml space e = (subst (λ v. bytes_eq v xmlns ≡ false) e refl, subst (λ v. (is_empty b.prefix || not (is_empty v)) ≡ true) e (or_right (is_empty b.prefix) true refl))

    by_case : (x : Bool) → cond x (same b.space xml_space) (not (same b.space xml_space) && not (same b.space xmlns_space) && (is_empty b.prefix || not (is_empty b.space))) ≡ true → Sound b
    by_case true e = let (f, g) = as_xml b.space (sym (same_is b.space xml_space e)) in record { text = t; other = f; some = g }
    by_case false e =
        let (f, g) = and_true (not (same b.space xml_space) && not (same b.space xmlns_space)) (is_empty b.prefix || not (is_empty b.space)) e in
        let (i, j) = and_true (not (same b.space xml_space)) (not (same b.space xmlns_space)) f in
        record { text = t; other = sym (same_bytes b.space xmlns) ∙ not_true (same b.space xmlns_space) j; some = g }

declared_well : (ds : List Binding) → AllByRecursion IsTextOf ds → may_declare ds ≡ true → AllByRecursion Sound ds
declared_well [] t h = tt
declared_well (b ∷ ds) t h =
    let (x, y) = and_true (may_bind b && not (declares b.prefix ds)) (may_declare ds) h in
    let (u, v) = and_true (may_bind b) (not (declares b.prefix ds)) x in
    (bound_well b t.0 u, declared_well ds t.1 y)

all_joined : (P : Binding → Type 0) (xs ys : List Binding) → AllByRecursion P xs → AllByRecursion P ys → AllByRecursion P (xs ++ ys)
all_joined P [] ys h k = k
all_joined P (x ∷ xs) ys h k = (h.0, all_joined P xs ys h.1 k)

-- what a prefix is bound to
record SoundSpace (prefix s : List ℕ) : Type 0 where
  text : spellable.is_text s ≡ true
  other : bytes_eq s xmlns ≡ false
  some : (is_empty prefix || not (is_empty s)) ≡ true

found_well : (prefix : List ℕ) (bs : List Binding) (s : List ℕ) → AllByRecursion Sound bs → lookup prefix bs ≡ Some s → SoundSpace prefix s
found_well prefix [] s h e = cc
found_well prefix (b ∷ bs) s h e = by_rest (lookup prefix bs) (found_well prefix bs s h.1) e
  where
    by_test : (t : Bool) → same prefix b.prefix ≡ t → cond t (Some b.space) None ≡ Some s → SoundSpace prefix s
    by_test true f e =
        let i : b.space ≡ s = cc in
        let j : b.prefix ≡ prefix = sym (same_is prefix b.prefix f) in
        let k = h.0 in
        subst (SoundSpace prefix) i (record { text = k.text; other = k.other; some = subst (λ v. (is_empty v || not (is_empty b.space)) ≡ true) j k.some })
    by_test false f e = cc

    by_rest : (o : Option (List ℕ)) → (o ≡ Some s → SoundSpace prefix s) → or_else o (cond (same prefix b.prefix) (Some b.space) None) ≡ Some s → SoundSpace prefix s
    by_rest None go e = by_test (same prefix b.prefix) refl e
    by_rest (Some u) go e = go e

some_space : (s : List ℕ) → spellable.is_text s ≡ true → bytes_eq s xmlns ≡ false → is_empty s ≡ false → spellable.is_space s ≡ true
some_space [] t o e = cc
some_space (c ∷ s) t o e = both_true (not (bytes_eq (c ∷ s) xmlns)) (spellable.is_text (c ∷ s)) (not_false (bytes_eq (c ∷ s) xmlns) o) t

xml_is_space : spellable.is_space xml_space ≡ true
unfolding encode chars is_utf8
xml_is_space = refl

or_first : (a b : Bool) → a ≡ false → (a || b) ≡ true → b ≡ true
or_first true b h k = cc
or_first false b h k = k

space_well : (bs : List Binding) (prefix s : List ℕ) → AllByRecursion Sound bs → is_empty prefix ≡ false → space_of bs prefix ≡ Some s → spellable.is_space s ≡ true
space_well bs prefix s h k e = by_case (same prefix (codes "xml")) e
  where
    by_case : (b : Bool) → cond b (Some xml_space) (lookup prefix bs) ≡ Some s → spellable.is_space s ≡ true
    by_case true e = let i : xml_space ≡ s = cc in subst (λ v. spellable.is_space v ≡ true) i xml_is_space
    by_case false e =
        let w = found_well prefix bs s h e in
        some_space s w.text w.other (not_true (is_empty s) (or_first (is_empty prefix) (not (is_empty s)) k w.some))

default_well : (bs : List Binding) → AllByRecursion Sound bs → spellable.is_space_or_none (defaulted (lookup [] bs)) ≡ true
default_well bs h = by_case (lookup [] bs) (λ s e. found_well [] bs s h e)
  where
    by_case : (o : Option (List ℕ)) → ((s : List ℕ) → o ≡ Some s → SoundSpace [] s) → spellable.is_space_or_none (defaulted o) ≡ true
    by_case None go = refl
    by_case (Some []) go = refl
    by_case (Some (c ∷ s)) go = let w = go (c ∷ s) refl in some_space (c ∷ s) w.text w.other refl

-- Names

abbrev qname : Option (List ℕ) → List ℕ → QName
qname space local = record { space = space; local = local }

as_name : (m n : QName) (P : QName → Type 0) → Some m ≡ Some n → P m → P n
as_name m n P e h = let i : m ≡ n = cc in subst P i h

xmlns_chars : chars (codes "xmlns") ≡ codes "xmlns"
unfolding chars
xmlns_chars = refl

module _ (bs : List Binding) (h : AllByRecursion Sound bs) (name : Parts) (l : LocalPart name) where
  local_spelled : spellable.is_part (encode_utf8_all name.local) ≡ true
  local_spelled = part_spelled name.local l.part l.fine

  within_spelled : (n : QName) → is_empty name.prefix ≡ false → (space_of bs name.prefix >>= (λ s. Some (qname (Some s) (encode_utf8_all name.local)))) ≡ Some n → (spellable.is_name n ≡ true) × (is_none n.space ≡ false)
  within_spelled n k e =
      let (s, f, g) = bind_some (space_of bs name.prefix) (λ s. Some (qname (Some s) (encode_utf8_all name.local))) n e in
      as_name (qname (Some s) (encode_utf8_all name.local)) n (λ n. (spellable.is_name n ≡ true) × (is_none n.space ≡ false)) g
      (both_true (spellable.is_space s) (spellable.is_part (encode_utf8_all name.local)) (space_well bs name.prefix s h k f) local_spelled, refl)

  pub element_spelled : (n : QName) → element_name bs name ≡ Some n → spellable.is_name n ≡ true
  element_spelled n e = by_case (is_empty name.prefix) refl e
    where
      by_case : (b : Bool) → is_empty name.prefix ≡ b
          → cond b (Some (qname (defaulted (lookup [] bs)) (encode_utf8_all name.local))) (space_of bs name.prefix >>= (λ s. Some (qname (Some s) (encode_utf8_all name.local)))) ≡ Some n → spellable.is_name n ≡ true
      by_case true k e =
          as_name (qname (defaulted (lookup [] bs)) (encode_utf8_all name.local)) n (λ n. spellable.is_name n ≡ true) e
          (both_true (spellable.is_space_or_none (defaulted (lookup [] bs))) (spellable.is_part (encode_utf8_all name.local)) (default_well bs h) local_spelled)
      by_case false k e = (within_spelled n k e).0

  local_not : same name.local (codes "xmlns") ≡ false → bytes_eq (encode_utf8_all name.local) (codes "xmlns") ≡ false
  local_not e = false_unless (bytes_eq (encode_utf8_all name.local) (codes "xmlns")) (λ k.
      let i : encode_utf8_all name.local ≡ codes "xmlns" = (bytes_eq-Decides (encode_utf8_all name.local) (codes "xmlns")).0 k in
      let j : name.local ≡ codes "xmlns" = sym (chars_back name.local l.fine) ∙ (ap chars i ∙ xmlns_chars) in
      apart (same name.local (codes "xmlns")) (subst (λ v. same v (codes "xmlns") ≡ true) (sym j) refl) e)

  pub attribute_spelled : (n : QName) → (is_empty name.prefix && same name.local (codes "xmlns")) ≡ false → attribute_name bs name ≡ Some n → (spellable.is_name n ≡ true) × (spellable.is_declaration n ≡ false)
  attribute_spelled n d e = by_case (is_empty name.prefix) refl d e
    where
      apart_from : (n : QName) → is_none n.space ≡ false → spellable.is_declaration n ≡ false
      apart_from n h = ap (λ b. b && bytes_eq n.local (codes "xmlns")) h

      by_case : (b : Bool) → is_empty name.prefix ≡ b → (b && same name.local (codes "xmlns")) ≡ false
          → cond b (Some (qname None (encode_utf8_all name.local))) (space_of bs name.prefix >>= (λ s. Some (qname (Some s) (encode_utf8_all name.local)))) ≡ Some n → (spellable.is_name n ≡ true) × (spellable.is_declaration n ≡ false)
      by_case true k d e =
          as_name (qname None (encode_utf8_all name.local)) n (λ n. (spellable.is_name n ≡ true) × (spellable.is_declaration n ≡ false)) e
          (both_true true (spellable.is_part (encode_utf8_all name.local)) refl local_spelled, local_not d)
      by_case false k d e = let (x, y) = within_spelled n k e in (x, apart_from n y)

-- Sorted pairs

record SoundSpelled (a : Spelled) : Type 0 where
  name : LocalPart a.name
  value : spellable.is_text a.value ≡ true
  plain : (is_empty a.name.prefix && same a.name.local (codes "xmlns")) ≡ false

declared_space : (name : Parts) (value : List ℕ) (b : Binding) → declared_by name value ≡ Some b → value ≡ b.space
declared_space name value b e = by_first (is_empty name.prefix && same name.local (codes "xmlns")) (same name.prefix (codes "xmlns")) e
  where
    same_space : (c : Binding) → Some c ≡ Some b → c.space ≡ b.space
    same_space c e = let i : c ≡ b = cc in ap (λ x. x.space) i

    by_first : (x y : Bool) → cond x (Some (record { prefix = []; space = value })) (cond y (Some (record { prefix = name.local; space = value })) None) ≡ Some b → value ≡ b.space
    by_first true y e = same_space (record { prefix = []; space = value }) e
    by_first false true e = same_space (record { prefix = name.local; space = value }) e
    by_first false false e = cc

declared_none : (name : Parts) (value : List ℕ) → declared_by name value ≡ None → (is_empty name.prefix && same name.local (codes "xmlns")) ≡ false
declared_none name value e = by_first (is_empty name.prefix && same name.local (codes "xmlns")) (same name.prefix (codes "xmlns")) e
  where
    by_first : (x y : Bool) → cond {A = Option Binding} x (Some (record { prefix = []; space = value })) (cond y (Some (record { prefix = name.local; space = value })) None) ≡ None → x ≡ false
    by_first true y e = cc
    by_first false y e = refl

abbrev SoundSorted : Sorted → Type 0
SoundSorted s = AllByRecursion IsTextOf s.declarations × AllByRecursion SoundSpelled s.attributes

sort_in_well : (name : Parts) (value : List ℕ) (o : Option Binding) (s : Sorted) → declared_by name value ≡ o → LocalPart name → spellable.is_text value ≡ true → SoundSorted s → SoundSorted (sort_in name value o s)
sort_in_well name value None s e l t h = (h.0, (record { name = l; value = t; plain = declared_none name value e }, h.1))
sort_in_well name value (Some b) s e l t h = ((subst (λ v. spellable.is_text v ≡ true) (declared_space name value b e) t, h.0), h.1)

sorted_well : (ps : List Pair) (s : Sorted) → AllByRecursion FinePair ps → sort ps ≡ Some s → SoundSorted s
sorted_well [] s h e = let i : record { declarations = []; attributes = [] } ≡ s = cc in subst SoundSorted i (tt, tt)
sorted_well (p ∷ ps) s h e =
    let (name, a, f) = bind_some (parts p.name) (λ name. sort ps >>= (λ rest. Some (sort_in name p.value (declared_by name p.value) rest))) s e in
    let (rest, b, g) = bind_some (sort ps) (λ rest. Some (sort_in name p.value (declared_by name p.value) rest)) s f in
    let i : sort_in name p.value (declared_by name p.value) rest ≡ s = cc in
    let q = h.0 in
    subst SoundSorted i (sort_in_well name p.value (declared_by name p.value) rest refl (parts_local p.name name a q.name) (is_text p.value q.value) (sorted_well ps rest h.1 b))

attributes_well : (bs : List Binding) → AllByRecursion Sound bs → (ss : List Spelled) (ats : List Attribute) → AllByRecursion SoundSpelled ss → attributes_of bs ss ≡ Some ats → list_all spellable.is_attribute ats ≡ true
attributes_well bs h [] ats k e = let i : [] ≡ ats = cc in subst (λ v. list_all spellable.is_attribute v ≡ true) i refl
attributes_well bs h (a ∷ ss) ats k e =
    let (name, x, f) = bind_some (attribute_name bs a.name) (λ name. attributes_of bs ss >>= (λ more. Some (record { name = name; value = a.value } ∷ more))) ats e in
    let (more, y, g) = bind_some (attributes_of bs ss) (λ more. Some (record { name = name; value = a.value } ∷ more)) ats f in
    let s = k.0 in
    let (u, v) = attribute_spelled bs h a.name s.name name s.plain x in
    let i : record { name = name; value = a.value } ∷ more ≡ ats = cc in
    subst (λ w. list_all spellable.is_attribute w ≡ true) i
    (both_true (spellable.is_attribute (record { name = name; value = a.value })) (list_all spellable.is_attribute more)
    (both_true (spellable.is_name name) (not (spellable.is_declaration name) && spellable.is_text a.value) u (both_true (not (spellable.is_declaration name)) (spellable.is_text a.value) (not_false (spellable.is_declaration name) v) s.value))
    (attributes_well bs h ss more k.1 y))

given_true : (b : Bool) (u : Unit {0}) → given b ≡ Some u → b ≡ true
given_true true u e = refl
given_true false u e = cc

-- Tags

pub record SoundMeaning (m : Meaning) : Type 0 where
  pub bindings : AllByRecursion Sound m.bindings
  pub tag : spellable.is_tag m.name m.attributes ≡ true

pub means_well : (bs : List Binding) (tag : Tag) (m : Meaning) → AllByRecursion Sound bs → FineTag tag → means bs tag ≡ Some m → SoundMeaning m
unfolding means
means_well bs tag m h t e =
    let (sorted, a, f) = bind_some (sort tag.pairs) _ m e in
    let (u, b, g) = bind_some (given (may_declare sorted.declarations)) _ m f in
    let (name, c, i) = bind_some (parts tag.name) _ m g in
    let (element, d, j) = bind_some (element_name (bs ++ sorted.declarations) name) _ m i in
    let (attributes, k, l) = bind_some (attributes_of (bs ++ sorted.declarations) sorted.attributes) _ m j in
    let (v, n, o) = bind_some (given (are_apart attributes)) _ m l in
    let same : record { bindings = bs ++ sorted.declarations; name = element; attributes = attributes } ≡ m = cc in
    let s = sorted_well tag.pairs sorted t.pairs a in
    let all = all_joined Sound bs sorted.declarations h (declared_well sorted.declarations s.0 (given_true (may_declare sorted.declarations) u b)) in
    subst SoundMeaning same (record {
      bindings = all;
      tag = both_true (spellable.is_name element) (list_all spellable.is_attribute attributes && spellable.are_apart attributes)
          (element_spelled (bs ++ sorted.declarations) all name (parts_local tag.name name c t.name) element d)
          (both_true (list_all spellable.is_attribute attributes) (spellable.are_apart attributes) (attributes_well (bs ++ sorted.declarations) all sorted.attributes attributes s.1 k)
          (sym (all_apart attributes) ∙ given_true (are_apart attributes) v n));
    })
