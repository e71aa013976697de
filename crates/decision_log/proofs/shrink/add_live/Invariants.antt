use Rattle.std.proofs.Common.{take}
use Rattle.decision_log.specs.ShrunkJournals.{Adds}
use Rattle.decision_log.proofs.shrink.add_live.Given as goal

abbrev pub invariant-loop-entry : goal.invariant-loop-entry
invariant-loop-entry l = Adds (take l.entry-index l.live) l.fn.bodies.items l.bodies.items
