use Rattle.std.proofs.Common.{length}
use Rattle.interposition.specs.Due.{items_behind}
use Rattle.world_laws.proofs.DueItems.{IsAsking}
use Rattle.world_laws.proofs.walk.Walk.ask_due.Given as goal

abbrev pub invariant-loop-item : goal.invariant-loop-item
invariant-loop-item l = IsAsking l.now l.fn.self l.self l.after

abbrev pub decreases-loop-item : goal.decreases-loop-item
decreases-loop-item l = length (items_behind l.self.book l.after)
