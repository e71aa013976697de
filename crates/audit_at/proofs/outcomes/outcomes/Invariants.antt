use Rattle.std.proofs.Common.{◌≡◌, ◌++◌, drop}
use Rattle.audit_at.specs.Outcomes.{outcomes_under}
use Rattle.audit_at.proofs.outcomes.outcomes.Given as goal

abbrev pub invariant-loop-log : goal.invariant-loop-log
invariant-loop-log l = l.outcomes.items ++ outcomes_under l.subs (drop l.log-index l.logs) ≡ outcomes_under l.subs l.logs
