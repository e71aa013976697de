use Rattle.std.proofs.Common.{◌≡◌, take}
use Rattle.std.specs.List.{AllByRecursion}
use Rattle.decision_log.proofs.kept_plan.find.Given as goal

abbrev pub invariant-loop-token : goal.invariant-loop-token
invariant-loop-token l = AllByRecursion (λ t. t ≡ record { id = l.id; what = l.what } → ⊥) (take l.token-index l.tokens)
