use Rattle.std.proofs.Common.{◌≡◌, map}
use Rattle.xml_profile.specs.declared.tree.Child.TheVariants.{Element}
use Rattle.soap_profile.proofs.build.children_of.Given as goal

abbrev pub invariant-loop-tree : goal.invariant-loop-tree
invariant-loop-tree l = l.children.items ≡ map Element l.yielded
