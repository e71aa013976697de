use Rattle.std.proofs.Common.{◌≡◌}
use Rattle.xml_profile.specs.Children.{forest_of}
use Rattle.soap_profile.specs.Values.{elements}
use Rattle.soap_profile.proofs.value.into_elements.Given as goal

abbrev pub invariant-loop-child : goal.invariant-loop-child
invariant-loop-child l = l.found.items ≡ elements (forest_of l.yielded)
