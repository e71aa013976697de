use Rattle.std.proofs.Common.{◌≡◌, ◌++◌, drop, map}
use Rattle.xml_profile.specs.Children.{forest_of}
use Rattle.soap_profile.specs.Values.{elements}
use Rattle.soap_profile.proofs.elements.Elements.within.Given as goal

abbrev pub invariant-loop-child : goal.invariant-loop-child
invariant-loop-child l = map (λ t. t.now) l.items.items ++ elements (forest_of (drop l.child-index l.child-items)) ≡ elements l.children
