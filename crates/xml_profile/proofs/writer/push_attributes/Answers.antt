use Rattle.std.proofs.Common.{rules, refl}
use Rattle.std.specs.List.{flat_map}
use Rattle.xml_profile.specs.CanonicalText.{attribute_text}
use Rattle.xml_profile.proofs.Utf8.{through, written}
use Rattle.xml_profile.proofs.writer.push_attributes.Goals as goal

pub loop-attribute-preserved : goal.loop-attribute-preserved
loop-attribute-preserved c = record {
  rest = written (flat_map (attribute_text c.args.numbered.now)) (attribute_text c.args.numbered.now) (λ x r. refl) c.as_slice-attribute-items.result.now c.loop-attribute.attribute-index
      c.attribute-item.result c.attribute-item.result _ _ _ (search rules) c.attribute-item.is c.in_ok-push_attribute.ensures.done c.loop-attribute.invariant.rest;
  kept = through _ _ _ c.loop-attribute.invariant.kept c.push_attribute.ensures.kept;
}
