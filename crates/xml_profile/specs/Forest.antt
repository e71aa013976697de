-- The children of an element as one list of nodes: each is a text or an element, with what follows it.
use Rattle.std.specs.Prelude.{ℕ, List, ◌≡◌, refl}
use base.Stored.{Coded, Gv, gnil, gcons, coded_list, coded_ℕ}
use Rattle.xml_profile.specs.declared.name.QName.{QName}
use Rattle.xml_profile.specs.declared.name.Attribute.{Attribute}
use Rattle.xml_profile.specs.contracts.name.QName.{the_row as name_row}
use Rattle.xml_profile.specs.contracts.name.Attribute.{the_row as attribute_row}

pub data Forest : Type 0 where
  End : Forest
  Text_then : List ℕ → Forest → Forest
  Element_then : QName → List Attribute → Forest → Forest → Forest

abbrev pub name_code : Coded QName
name_code = name_row.coded

abbrev pub attributes_code : Coded (List Attribute)
attributes_code = coded_list attribute_row.coded

abbrev pub text_code : Coded (List ℕ)
text_code = coded_list coded_ℕ

abbrev pub code : Forest → Gv
code End = gnil
code (Text_then t r) = gcons (gcons gnil (text_code.code t)) (code r)
code (Element_then n a c r) = gcons (gcons (gcons (name_code.code n) (attributes_code.code a)) (code c)) (code r)

pub code_inj : (x y : Forest) → code x ≡ code y → x ≡ y
code_inj End End p = refl
code_inj End (Text_then t r) p = cc
code_inj End (Element_then n a c r) p = cc
code_inj (Text_then t r) End p = cc
code_inj (Text_then t r) (Text_then t' r') p =
    let e : text_code.code t ≡ text_code.code t' = cc in
    let f : code r ≡ code r' = cc in
    let g : t ≡ t' = text_code.inj t t' e in
    let h : r ≡ r' = code_inj r r' f in
    λ i. Text_then (g i) (h i)
code_inj (Text_then t r) (Element_then n a c r') p = cc
code_inj (Element_then n a c r) End p = cc
code_inj (Element_then n a c r) (Text_then t r') p = cc
code_inj (Element_then n a c r) (Element_then n' a' c' r') p =
    let d : name_code.code n ≡ name_code.code n' = cc in
    let e : attributes_code.code a ≡ attributes_code.code a' = cc in
    let f : code c ≡ code c' = cc in
    let g : code r ≡ code r' = cc in
    let d' : n ≡ n' = name_code.inj n n' d in
    let e' : a ≡ a' = attributes_code.inj a a' e in
    let f' : c ≡ c' = code_inj c c' f in
    let g' : r ≡ r' = code_inj r r' g in
    λ i. Element_then (d' i) (e' i) (f' i) (g' i)

abbrev pub forest_code : Coded Forest
forest_code = record { code = code; inj = code_inj }
