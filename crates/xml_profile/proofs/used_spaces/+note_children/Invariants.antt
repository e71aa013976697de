use Rattle.std.proofs.Common.{◌≡◌, ◌≤◌, drop}
use Rattle.std.specs.List.{fold}
use Rattle.xml_profile.specs.CanonicalText.{declare, enumerate, spaces_in}
use Rattle.xml_profile.specs.Children.{forest_of, nodes}
use Rattle.xml_profile.proofs.used_spaces.+note_children.Given as goal

abbrev pub decreases-note_children : goal.decreases-note_children
decreases-note_children l = goal.size-note_children l

abbrev pub invariant-loop-child : goal.invariant-loop-child
invariant-loop-child l = record {
  declared : fold declare l.used.declared (spaces_in (forest_of (drop l.child-index l.child-items))) ≡ fold declare l.fn.used.declared (spaces_in l.children);
  numbered : fold enumerate l.used.numbered (spaces_in (forest_of (drop l.child-index l.child-items))) ≡ fold enumerate l.fn.used.numbered (spaces_in l.children);
  smaller : nodes (forest_of (drop l.child-index l.child-items)) ≤ nodes l.children;
}
