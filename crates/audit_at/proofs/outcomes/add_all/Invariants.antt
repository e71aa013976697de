use Rattle.std.proofs.Common.{◌≡◌, ◌++◌, length}
use Rattle.audit_at.specs.Outcomes.{outcomes_in}
use Rattle.audit_at.proofs.outcomes.add_all.Given as goal

abbrev pub invariant-loop-entry : goal.invariant-loop-entry
invariant-loop-entry l = l.outcomes.items ++ outcomes_in l.subs l.base l.rest ≡ l.fn.outcomes.items ++ outcomes_in l.subs l.base l.entries

abbrev pub decreases-loop-entry : goal.decreases-loop-entry
decreases-loop-entry l = length l.rest
