use Rattle.std.proofs.Common.{◌≡◌, ◌≤◌, ◌+◌, drop, length}
use Rattle.audit_at.specs.Verdicts.{aborted_tops}
use Rattle.audit_at.proofs.verdicts.count_aborted.Given as goal

abbrev pub invariant-loop-outcome : goal.invariant-loop-outcome
invariant-loop-outcome l =
    (l.count ≤ l.outcome-index) × (l.count + length (aborted_tops (drop l.outcome-index l.outcomes)) ≡ length (aborted_tops l.outcomes))
