-- Trees of few levels, few elements and at most one attribute on each, and what is built of such.
use Rattle.std.proofs.Common.{◌≡◌, ℕ, suc, ◌+◌, ◌≤◌, List, [], ◌∷◌, ◌++◌, Bool, true, false, cond, max, arith}
use Rattle.xml_profile.specs.declared.name.QName.{QName}
use Rattle.xml_profile.specs.declared.tree.Tree.{Tree}
use Rattle.xml_profile.specs.Forest.Forest.{End}
use Rattle.xml_grammar.specs.Limits.{elements, levels, widest}
use Rattle.soap_profile.specs.BuiltElements.{children_of, element, text_children}

-- at most so many levels and elements together
pub record AreSmall (deep many : ℕ) (ts : List Tree) : Type 0 where
  pub levels : levels (children_of ts) ≤ deep
  pub elements : elements (children_of ts) ≤ many
  pub attributes : widest (children_of ts) ≤ 1

pub none_small : (deep many : ℕ) → AreSmall deep many []
none_small deep many = record { levels = omega arith; elements = omega arith; attributes = omega arith }

both_levels : (ts us : List Tree) → levels (children_of (ts ++ us)) ≡ max (levels (children_of ts)) (levels (children_of us))
both_levels [] us = omega arith
both_levels (t ∷ ts) us = omega (arith, both_levels ts us)

both_elements : (ts us : List Tree) → elements (children_of (ts ++ us)) ≡ elements (children_of ts) + elements (children_of us)
both_elements [] us = omega arith
both_elements (t ∷ ts) us = omega (arith, both_elements ts us)

both_widest : (ts us : List Tree) → widest (children_of (ts ++ us)) ≡ max (widest (children_of ts)) (widest (children_of us))
both_widest [] us = omega arith
both_widest (t ∷ ts) us = omega (arith, both_widest ts us)

pub both_small : {deep many more : ℕ} {ts us : List Tree} → AreSmall deep many ts → AreSmall deep more us → AreSmall deep (many + more) (ts ++ us)
both_small {ts = ts} {us = us} h k = record {
  levels = omega (arith, both_levels ts us);
  elements = omega (arith, both_elements ts us);
  attributes = omega (arith, both_widest ts us);
}

-- an element of elements
pub element_small : {deep many : ℕ} {ts : List Tree} (name : QName) → AreSmall deep many ts
    → AreSmall (suc deep) (suc many) (element name (children_of ts) ∷ [])
element_small name h = record { levels = omega arith; elements = omega arith; attributes = omega arith }

-- an element with nothing in it
pub empty_small : (deep : ℕ) (name : QName) → AreSmall (suc deep) 1 (element name End ∷ [])
empty_small deep name = element_small name (none_small deep 0)

-- an element of a text
pub text_small : (deep : ℕ) (name : QName) (text : List ℕ) → AreSmall (suc deep) 1 (element name (text_children text) ∷ [])
text_small deep name [] = empty_small deep name
text_small deep name (c ∷ cs) = record { levels = omega arith; elements = omega arith; attributes = omega arith }

-- what may be left out
pub unless_small : {deep many : ℕ} {ts : List Tree} (left_out : Bool) → AreSmall deep many ts → AreSmall deep many (cond left_out [] ts)
unless_small {deep = deep} {many = many} true h = none_small deep many
unless_small false h = h
