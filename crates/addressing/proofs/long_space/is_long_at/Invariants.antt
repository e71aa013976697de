use Rattle.std.proofs.Common.{◌≡◌, drop, map}
use Rattle.std.specs.List.{list_any}
use Rattle.xml_profile.specs.CanonicalText.{spaces_at}
use Rattle.addressing.specs.Lengths.{is_long}
use Rattle.addressing.proofs.long_space.is_long_at.Given as goal

abbrev pub invariant-loop-attribute : goal.invariant-loop-attribute
invariant-loop-attribute l = list_any is_long (map (λ a. a.name.space) (drop l.attribute-index l.attribute-items)) ≡ list_any is_long (spaces_at l.name l.attributes)
