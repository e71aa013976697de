use Rattle.std.proofs.Common.{◌≡◌, ◌≤◌, drop, nat_le}
use Rattle.xml_profile.specs.Children.{forest_of, nodes}
use Rattle.xml_grammar.specs.Limits.{widest}
use Rattle.xml_grammar.proofs.reader.+are_narrow.Given as goal

abbrev pub decreases-are_narrow : goal.decreases-are_narrow
decreases-are_narrow l = goal.size-are_narrow l

abbrev pub invariant-loop-child : goal.invariant-loop-child
invariant-loop-child l = record {
  rest : nat_le (widest (forest_of (drop l.child-index l.child-items))) 32 ≡ nat_le (widest l.children) 32;
  smaller : nodes (forest_of (drop l.child-index l.child-items)) ≤ nodes l.children;
}
