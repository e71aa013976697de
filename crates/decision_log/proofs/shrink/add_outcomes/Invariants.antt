use Rattle.std.proofs.Common.{take, map}
use Rattle.at_base.specs.declared.record.Record.TheVariants as records
use Rattle.decision_log.specs.ShrunkJournals.{Adds}
use Rattle.decision_log.proofs.shrink.add_outcomes.Given as goal

abbrev pub invariant-loop-id : goal.invariant-loop-id
invariant-loop-id l = Adds (map records.Done (take l.id-index l.done)) l.fn.bodies.items l.bodies.items
