use Rattle.std.proofs.Common.{◌≡◌, ◌++◌, drop}
use Rattle.std.specs.List.{flat_map}
use Rattle.xml_profile.specs.Extensions.{AddsText}
use Rattle.xml_profile.specs.CanonicalText.{attribute_text}
use Rattle.xml_profile.proofs.writer.push_attributes.Given as goal

abbrev pub invariant-loop-attribute : goal.invariant-loop-attribute
invariant-loop-attribute l = record {
  rest : l.out.items ++ flat_map (attribute_text l.numbered) (drop l.attribute-index l.attribute-items) ≡ l.fn.out.items ++ flat_map (attribute_text l.numbered) l.attributes;
  kept : AddsText l.fn.out.items l.out.items;
}
