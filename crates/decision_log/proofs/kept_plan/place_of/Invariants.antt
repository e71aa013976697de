use Rattle.std.proofs.Common.{◌≡◌, ◌+◌, drop}
use Rattle.decision_log.specs.Places.{place_last}
use Rattle.decision_log.proofs.kept_plan.place_of.Given as goal

abbrev pub invariant-loop-token : goal.invariant-loop-token
invariant-loop-token l = (l.place ≡ l.token-index) × (l.place + place_last l.id (drop l.token-index l.tokens) ≡ place_last l.id l.tokens)
