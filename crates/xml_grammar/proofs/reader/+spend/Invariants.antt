use Rattle.std.proofs.Common.{◌≡◌, ◌≤◌, drop}
use Rattle.xml_profile.specs.Children.{forest_of, nodes}
use Rattle.xml_grammar.specs.Limits.{elements}
use Rattle.xml_grammar.specs.Code.Found.{spent}
use Rattle.xml_grammar.proofs.reader.+spend.Given as goal

abbrev pub decreases-spend : goal.decreases-spend
decreases-spend l = goal.size-spend l

abbrev pub invariant-loop-child : goal.invariant-loop-child
invariant-loop-child l = record {
  rest : spent l.left (elements (forest_of (drop l.child-index l.child-items))) ≡ spent l.budget (elements l.children);
  smaller : nodes (forest_of (drop l.child-index l.child-items)) ≤ nodes l.children;
}
