use Rattle.std.proofs.Common.{take}
use Rattle.audit_at.specs.Audits.{AreLogsOf}
use Rattle.audit_at.proofs.audit.logs_of.Given as goal

abbrev pub invariant-loop-journal : goal.invariant-loop-journal
invariant-loop-journal l = AreLogsOf (take l.journal-index l.journals) l.logs.items
