-- What is built of parts that can be spelled can be spelled.
use Rattle.std.proofs.Common.{◌≡◌, ℕ, ◌<◌, ◌^◌, List, [], ◌∷◌, ◌++◌, true, ◌&&◌, not, refl, ap, subst, arith, encode_utf8}
use Rattle.std.specs.List.{AllByRecursion}
use Rattle.std.specs.Char.{is_ascii_digit}
use Rattle.std.specs.Str.{all_ascii_digits}
use Rattle.std.specs.Str.Parse.{digits_value}
use Rattle.std.specs.Fmt.{decimal}
use Rattle.std.proofs.Common.{rules}
use Rattle.std.proofs.lemmas.Str.{encode_ascii}
use Rattle.std.proofs.lemmas.Str.Parse.{IsNumeralModel, numerals_by_value}
use Rattle.std.proofs.lemmas.Fmt.{digits_decimal}
use Rattle.at_base.specs.Chars.{is_xml_char}
use Rattle.xml_profile.specs.declared.name.QName.{QName}
use Rattle.xml_profile.specs.declared.tree.Tree.{Tree}
use Rattle.xml_profile.specs.Forest.{Forest}
use Rattle.xml_profile.specs.Forest.Forest.{End, Text_then, Element_then}
use Rattle.xml_profile.specs.SpellableTrees.{can_be_spelled, is_content, is_empty, is_name, is_tag, is_text, texts_apart}
use Rattle.xml_roundtrip.proofs.ReadCharacters.{XmlText, is_text as text_from, text_all, text_both, text_one}
use Rattle.soap_profile.specs.BuiltElements.{children_of, element, text_children}
use Rattle.soap_profile.specs.Values.{elements}
use Rattle.wire_posts.proofs.Bools.{both, both_true}

abbrev pub Can : Tree → Type 0
Can t = can_be_spelled t ≡ true

abbrev pub AllCan : List Tree → Type 0
AllCan ts = AllByRecursion Can ts

-- children that can stand in an element
abbrev pub Inside : Forest → Type 0
Inside f = (texts_apart f && is_content f) ≡ true

pub element_can : (name : QName) (f : Forest) → is_name name ≡ true → Inside f → Can (element name f)
element_can name f n h = both_true (is_tag name []) (texts_apart f && is_content f) (both_true (is_name name) true n refl) h

pub text_inside : (text : List ℕ) → is_text text ≡ true → Inside (text_children text)
text_inside [] h = refl
text_inside (c ∷ cs) h = both_true (is_text (c ∷ cs)) true h refl

elements_apart : (ts : List Tree) → texts_apart (children_of ts) ≡ true
elements_apart [] = refl
elements_apart (t ∷ ts) = elements_apart ts

elements_content : (ts : List Tree) → AllCan ts → is_content (children_of ts) ≡ true
elements_content [] h = refl
elements_content (t ∷ ts) h =
    let (tag, inside) = both (is_tag t.name t.attributes) (texts_apart t.children && is_content t.children) h.0 in
    let (separate, content) = both (texts_apart t.children) (is_content t.children) inside in
    both_true (is_tag t.name t.attributes) (texts_apart t.children && (is_content t.children && is_content (children_of ts))) tag
    (both_true (texts_apart t.children) (is_content t.children && is_content (children_of ts)) separate
    (both_true (is_content t.children) (is_content (children_of ts)) content (elements_content ts h.1)))

pub elements_inside : (ts : List Tree) → AllCan ts → Inside (children_of ts)
elements_inside ts h = both_true (texts_apart (children_of ts)) (is_content (children_of ts)) (elements_apart ts) (elements_content ts h)

pub text_can : (name : QName) (text : List ℕ) → is_name name ≡ true → is_text text ≡ true → Can (element name (text_children text))
text_can name text n h = element_can name (text_children text) n (text_inside text h)

pub elements_can : (name : QName) (ts : List Tree) → is_name name ≡ true → AllCan ts → Can (element name (children_of ts))
elements_can name ts n h = element_can name (children_of ts) n (elements_inside ts h)

pub all_can : (ts us : List Tree) → AllCan ts → AllCan us → AllCan (ts ++ us)
all_can [] us h k = k
all_can (t ∷ ts) us h k = (h.0, all_can ts us h.1 k)

-- the elements in one that can be spelled
within : (f : Forest) → is_content f ≡ true → AllCan (elements f)
within End h = tt
within (Text_then t r) h = within r (both (not (is_empty t) && is_text t) (is_content r) h).1
within (Element_then n a c r) h =
    let (tag, rest) = both (is_tag n a) (texts_apart c && (is_content c && is_content r)) h in
    let (separate, contents) = both (texts_apart c) (is_content c && is_content r) rest in
    let (content, more) = both (is_content c) (is_content r) contents in
    (both_true (is_tag n a) (texts_apart c && is_content c) tag (both_true (texts_apart c) (is_content c) separate content), within r more)

pub elements_of : (t : Tree) → Can t → AllCan (elements t.children)
elements_of t h =
    let (tag, inside) = both (is_tag t.name t.attributes) (texts_apart t.children && is_content t.children) h in
    within t.children (both (texts_apart t.children) (is_content t.children) inside).1

-- digits are characters of XML
own : IsNumeralModel (λ ds. all_ascii_digits ds ≡ true) (digits_value 10)
own = numerals_by_value _ (search rules)

digit_char : (d : ℕ) → is_ascii_digit d ≡ true → is_xml_char d ≡ true
digit_char d h = grind (arith)

digit_low : (d : ℕ) → is_ascii_digit d ≡ true → d < 128
digit_low d h = grind (arith)

digits_text : (ds : List ℕ) → all_ascii_digits ds ≡ true → XmlText ds
digits_text [] h = text_all [] refl
digits_text (d ∷ ds) h =
    let (first, rest) = both (is_ascii_digit d) (all_ascii_digits ds) h in
    subst XmlText (ap (λ (w : List ℕ). w ++ ds) (encode_ascii d (digit_low d first)))
    (text_both (encode_utf8 d) ds (text_one d (digit_char d first)) (digits_text ds rest))

pub decimal_text : (n : ℕ) → n < 2 ^ 32 → is_text (decimal n) ≡ true
decimal_text n small = text_from (decimal n) (digits_text (decimal n) (digits_decimal own n (omega (arith, small))))
