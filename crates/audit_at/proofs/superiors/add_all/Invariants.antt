use Rattle.std.proofs.Common.{◌≡◌, ◌++◌, length}
use Rattle.audit_at.specs.Superiors.{subordinates_in}
use Rattle.audit_at.proofs.superiors.add_all.Given as goal

abbrev pub invariant-loop-entry : goal.invariant-loop-entry
invariant-loop-entry l = l.subs.items ++ subordinates_in l.base l.rest ≡ l.fn.subs.items ++ subordinates_in l.base l.entries

abbrev pub decreases-loop-entry : goal.decreases-loop-entry
decreases-loop-entry l = length l.rest
