use Rattle.std.proofs.Common.{◌≡◌, map, drop}
use Rattle.std.specs.List.{fold}
use Rattle.xml_profile.specs.CanonicalText.{declare, enumerate, spaces_at}
use Rattle.xml_profile.proofs.used_spaces.note_names.Given as goal

abbrev pub invariant-loop-attribute : goal.invariant-loop-attribute
invariant-loop-attribute l = record {
  declared : fold declare l.used.declared (map (λ a. a.name.space) (drop l.attribute-index l.attribute-items)) ≡ fold declare l.fn.used.declared (spaces_at l.name l.attributes);
  numbered : fold enumerate l.used.numbered (map (λ a. a.name.space) (drop l.attribute-index l.attribute-items)) ≡ fold enumerate l.fn.used.numbered (spaces_at l.name l.attributes);
}
