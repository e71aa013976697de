use Rattle.std.proofs.Common.{◌≡◌, ◌≤◌, drop}
use Rattle.xml_profile.specs.Children.{forest_of, nodes}
use Rattle.xml_profile.specs.SpellableTrees.{is_content}
use Rattle.xml_profile.proofs.spellable_trees.+is_content.Given as goal

abbrev pub decreases-is_content : goal.decreases-is_content
decreases-is_content l = goal.size-is_content l

abbrev pub invariant-loop-child : goal.invariant-loop-child
invariant-loop-child l = record {
  rest : is_content (forest_of (drop l.child-index l.child-items)) ≡ is_content l.children;
  smaller : nodes (forest_of (drop l.child-index l.child-items)) ≤ nodes l.children;
}
