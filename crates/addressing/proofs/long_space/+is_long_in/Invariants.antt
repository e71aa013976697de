use Rattle.std.proofs.Common.{◌≡◌, ◌≤◌, drop}
use Rattle.std.specs.List.{list_any}
use Rattle.xml_profile.specs.CanonicalText.{spaces_in}
use Rattle.xml_profile.specs.Children.{forest_of, nodes}
use Rattle.addressing.specs.Lengths.{is_long}
use Rattle.addressing.proofs.long_space.+is_long_in.Given as goal

abbrev pub decreases-is_long_in : goal.decreases-is_long_in
decreases-is_long_in l = goal.size-is_long_in l

abbrev pub invariant-loop-child : goal.invariant-loop-child
invariant-loop-child l = record {
  rest : list_any is_long (spaces_in (forest_of (drop l.child-index l.child-items))) ≡ list_any is_long (spaces_in l.children);
  smaller : nodes (forest_of (drop l.child-index l.child-items)) ≤ nodes l.children;
}
