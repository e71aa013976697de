-- What a list of children is as a forest, and the number of nodes of a forest, at every depth.
use Rattle.std.specs.Prelude.{ℕ, List, [], ◌∷◌, ◌+◌}
use Rattle.xml_profile.specs.Forest.{Forest}
use Rattle.xml_profile.specs.Forest.Forest.{End, Text_then, Element_then}
use Rattle.xml_profile.specs.declared.tree.Child.{Child}
use Rattle.xml_profile.specs.declared.tree.Child.TheVariants.{Element, Text}

abbrev pub forest_of : List Child → Forest
forest_of [] = End
forest_of (Text t ∷ rest) = Text_then t (forest_of rest)
forest_of (Element t ∷ rest) = Element_then t.name t.attributes t.children (forest_of rest)

abbrev pub nodes : Forest → ℕ
nodes End = 0
nodes (Text_then t r) = 1 + nodes r
nodes (Element_then n a c r) = 1 + nodes c + nodes r
