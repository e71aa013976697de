use Rattle.std.proofs.Common.{◌≡◌, drop}
use Rattle.audit_at.specs.Verdicts.{aborted_tops, is_among}
use Rattle.audit_at.proofs.verdicts.is_aborted.Given as goal

abbrev pub invariant-loop-outcome : goal.invariant-loop-outcome
invariant-loop-outcome l = is_among (aborted_tops (drop l.outcome-index l.outcomes)) l.top ≡ is_among (aborted_tops l.outcomes) l.top
