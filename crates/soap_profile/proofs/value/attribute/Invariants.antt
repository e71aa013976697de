use Rattle.std.proofs.Common.{◌≡◌, drop}
use Rattle.soap_profile.specs.Values.{attribute}
use Rattle.soap_profile.proofs.value.attribute.Given as goal

abbrev pub invariant-loop-item : goal.invariant-loop-item
invariant-loop-item l = attribute (drop l.item-index l.attributes) l.space l.local ≡ attribute l.attributes l.space l.local
