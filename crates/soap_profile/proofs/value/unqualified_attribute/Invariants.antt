use Rattle.std.proofs.Common.{◌≡◌, drop}
use Rattle.soap_profile.specs.Values.{unqualified_attribute}
use Rattle.soap_profile.proofs.value.unqualified_attribute.Given as goal

abbrev pub invariant-loop-item : goal.invariant-loop-item
invariant-loop-item l = unqualified_attribute (drop l.item-index l.attributes) l.local ≡ unqualified_attribute l.attributes l.local
