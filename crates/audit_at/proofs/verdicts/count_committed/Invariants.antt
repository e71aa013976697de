use Rattle.std.proofs.Common.{◌≡◌, ◌≤◌, ◌+◌, drop, length}
use Rattle.audit_at.specs.Verdicts.{committed_tops}
use Rattle.audit_at.proofs.verdicts.count_committed.Given as goal

abbrev pub invariant-loop-outcome : goal.invariant-loop-outcome
invariant-loop-outcome l =
    (l.count ≤ l.outcome-index) × (l.count + length (committed_tops (drop l.outcome-index l.outcomes)) ≡ length (committed_tops l.outcomes))
