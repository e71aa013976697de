-- Texts of any depth, width and length, and the trees that they spell.
use Rattle.std.specs.Prelude.{ℕ, zero, suc, List, [], ◌∷◌, ◌++◌, map, None, codes}
use Rattle.xml_profile.specs.Forest.{Forest}
use Rattle.xml_profile.specs.Forest.Forest.{End, Element_then}
use Rattle.xml_profile.specs.declared.name.QName.{QName}
use Rattle.xml_profile.specs.declared.name.Attribute.{Attribute}
use Rattle.xml_profile.specs.declared.tree.Tree.{Tree}

abbrev pub plain : List ℕ → QName
plain local = record { space = None; local = local }

abbrev pub element : QName → List Attribute → Forest → Tree
element n a kids = record { name = n; attributes = a; children = kids }

-- so many elements, one in another, in the innermost an empty one
abbrev pub deep_text : ℕ → List ℕ
deep_text zero = codes "<a/>"
deep_text (suc n) = codes "<a>" ++ deep_text n ++ codes "</a>"

abbrev pub deep_inside : ℕ → Forest
deep_inside zero = End
deep_inside (suc n) = Element_then (plain (codes "a")) [] (deep_inside n) End

abbrev pub deep : ℕ → Tree
deep n = element (plain (codes "a")) [] (deep_inside n)

-- an attribute of each of these names of one letter
abbrev pub attribute_texts : List ℕ → List ℕ
attribute_texts [] = []
attribute_texts (c ∷ cs) = 32 ∷ c ∷ codes "=''" ++ attribute_texts cs

abbrev pub wide_text : List ℕ → List ℕ
wide_text names = codes "<a" ++ attribute_texts names ++ codes "/>"

abbrev pub attribute_named : ℕ → Attribute
attribute_named c = record { name = plain (c ∷ []); value = [] }

abbrev pub wide : List ℕ → Tree
wide names = element (plain (codes "a")) (map attribute_named names) End

-- an element with so many empty ones in it
abbrev pub kids_text : ℕ → List ℕ → List ℕ
kids_text zero rest = rest
kids_text (suc n) rest = codes "<a/>" ++ kids_text n rest

abbrev pub row_text : ℕ → List ℕ
row_text n = codes "<r>" ++ kids_text n (codes "</r>")

abbrev pub kids : ℕ → Forest
kids zero = End
kids (suc n) = Element_then (plain (codes "a")) [] End (kids n)

abbrev pub row : ℕ → Tree
row n = element (plain (codes "r")) [] (kids n)
