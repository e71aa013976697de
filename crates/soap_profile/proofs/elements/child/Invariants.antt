use Rattle.std.proofs.Common.{◌≡◌, drop}
use Rattle.std.specs.Option.{option_copied}
use Rattle.xml_profile.specs.Children.{forest_of}
use Rattle.soap_profile.specs.Children.{all_named, child_of}
use Rattle.soap_profile.specs.Values.{elements}
use Rattle.soap_profile.proofs.Lookups.{ahead}
use Rattle.soap_profile.proofs.elements.child.Given as goal

abbrev pub invariant-loop-child : goal.invariant-loop-child
invariant-loop-child l =
    ahead (option_copied l.found) (all_named (elements (forest_of (drop l.child-index l.child-items))) (option_copied l.space) l.local)
    ≡ child_of l.tree (option_copied l.space) l.local
