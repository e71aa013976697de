use Rattle.std.proofs.Common.{◌≡◌, ◌++◌, ◌≤◌, ◌+◌, ◌*◌, drop}
use Rattle.xml_profile.specs.Extensions.{AddsText}
use Rattle.xml_profile.specs.CanonicalText.{content_text}
use Rattle.xml_profile.specs.Children.{forest_of, nodes}
use Rattle.xml_profile.proofs.writer.+content.Given as goal

abbrev pub decreases-push_content : goal.decreases-push_content
decreases-push_content l = 2 * goal.size-push_content l + 1

abbrev pub decreases-push_child : goal.decreases-push_child
decreases-push_child l = 2 * goal.size-push_child l

abbrev pub invariant-push_content-loop-child : goal.invariant-push_content-loop-child
invariant-push_content-loop-child l = record {
  rest : l.out.items ++ content_text l.numbered (forest_of (drop l.child-index l.child-items)) ≡ l.fn.out.items ++ content_text l.numbered l.children;
  kept : AddsText l.fn.out.items l.out.items;
  smaller : nodes (forest_of (drop l.child-index l.child-items)) ≤ nodes l.children;
}
