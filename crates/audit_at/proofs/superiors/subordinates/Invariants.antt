use Rattle.std.proofs.Common.{◌≡◌, ◌++◌, drop}
use Rattle.audit_at.specs.Superiors.{subordinates}
use Rattle.audit_at.proofs.superiors.subordinates.Given as goal

abbrev pub invariant-loop-log : goal.invariant-loop-log
invariant-loop-log l = l.subs.items ++ subordinates (drop l.log-index l.logs) ≡ subordinates l.logs
