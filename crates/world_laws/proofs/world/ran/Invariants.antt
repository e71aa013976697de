use Rattle.std.proofs.Common.{◌≡◌, ◌++◌, drop}
use Rattle.world_laws.proofs.world.ran.Given as goal

abbrev pub invariant-loop-event : goal.invariant-loop-event
invariant-loop-event l = (l.world.count ≡ l.nodes) × (l.world.events ++ drop l.event-index l.events ≡ l.events)
