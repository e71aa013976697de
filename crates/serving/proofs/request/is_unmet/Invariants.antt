use Rattle.std.proofs.Common.{◌≡◌, drop, nat_eq}
use Rattle.std.specs.List.{list_any}
use Rattle.serving.proofs.request.is_unmet.Given as goal

abbrev pub invariant-loop-refused : goal.invariant-loop-refused
invariant-loop-refused l = list_any (nat_eq l.activity) (drop l.refused-index l.fn.unmet) ≡ list_any (nat_eq l.activity) l.fn.unmet
