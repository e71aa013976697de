use Rattle.std.proofs.Common.{◌≡◌, length}
use Rattle.xml_profile.specs.Children.{forest_of}
use Rattle.soap_profile.specs.Values.{elements}
use Rattle.soap_profile.proofs.elements.first_element.Given as goal

abbrev pub invariant-loop-child : goal.invariant-loop-child
invariant-loop-child l = elements (forest_of l.rest) ≡ elements (forest_of l.children)

abbrev pub decreases-loop-child : goal.decreases-loop-child
decreases-loop-child l = length l.rest
