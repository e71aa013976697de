use Rattle.std.proofs.Common.{rules, ◌∷◌, []}
use Rattle.xml_profile.specs.CanonicalText.{content_text}
use Rattle.xml_profile.specs.Children.{forest_of}
use Rattle.xml_profile.proofs.Contents.{one_more, smaller}
use Rattle.xml_profile.proofs.Utf8.{through, written}
use Rattle.xml_profile.proofs.writer.+content.Goals as goal

pub push_content-loop-child-preserved : goal.push_content-loop-child-preserved
push_content-loop-child-preserved t c = record {
  rest = written (λ xs. content_text c.args.numbered.now (forest_of xs)) (λ x. content_text c.args.numbered.now (forest_of (x ∷ []))) (one_more c.args.numbered.now)
      c.as_slice-child-items.result.now c.loop-child.child-index c.child-item.result c.child-item.result _ _ _ (search rules) c.child-item.is c.in_ok-push_child.ensures.done
      c.loop-child.invariant.rest;
  kept = through _ _ _ c.loop-child.invariant.kept c.push_child.ensures.kept;
  smaller = smaller c.as_slice-child-items.result.now c.loop-child.child-index c.child-item.result _ (search rules) c.loop-child.invariant.smaller;
}
