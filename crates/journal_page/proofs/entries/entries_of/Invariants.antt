use Rattle.std.proofs.Common.{take}
use Rattle.decision_log.specs.Folds.{AreRecords}
use Rattle.journal_at.specs.Frames.{bodies_of}
use Rattle.journal_page.proofs.entries.entries_of.Given as goal

abbrev pub invariant-loop-placed : goal.invariant-loop-placed
invariant-loop-placed l = AreRecords l.version l.entries.items (bodies_of (take l.placed-index l.items))
