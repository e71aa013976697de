use Rattle.std.proofs.Common.{◌≡◌, ◌+◌, take}
use Rattle.audit_cmd.specs.Readings.{AreRead}
use Rattle.audit_cmd.proofs.report.read_all.Given as goal

abbrev pub invariant-loop-line : goal.invariant-loop-line
invariant-loop-line l = AreRead (take l.line-index l.lines) l.journals.items × (l.number ≡ l.line-index + 1)
