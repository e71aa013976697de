-- A list of children holds no more below it than it has nodes.
use Rattle.std.specs.Prelude.{List, [], ◌∷◌, ◌≤◌}
use Rattle.std.proofs.Common.{arith}
use denote.Param.Weighed.{most}
use Rattle.xml_profile.specs.Children.{forest_of, nodes}
use Rattle.xml_profile.specs.declared.tree.Child.{Child}
use Rattle.xml_profile.specs.declared.tree.Child.TheVariants.{Element, Text}
use Rattle.xml_profile.specs.declared.tree.Children.TheDeep.{deep-Child}

pub most_le-nodes : (items : List Child) → most deep-Child items ≤ nodes (forest_of items)
most_le-nodes [] = omega arith
most_le-nodes (Text t ∷ rest) = omega (arith, most_le-nodes rest)
most_le-nodes (Element t ∷ rest) = omega (arith, most_le-nodes rest)
