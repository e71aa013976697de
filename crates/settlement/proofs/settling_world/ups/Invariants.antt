use Rattle.std.specs.Prelude.{◌≡◌, ◌++◌, ◌+◌, drop, map}
use Rattle.model_laws.specs.Settlement.{ups}
use Rattle.world_laws.specs.Events.{event_of}
use Rattle.world_laws.specs.Runs.{world_of}
use Rattle.settlement.proofs.settling_world.ups.Given as goal

abbrev pub invariant-loop-place : goal.invariant-loop-place
invariant-loop-place l = map event_of l.events.items ++ ups (l.place + 1) (drop l.place (world_of l.fn.world).nodes) ≡ ups 1 (world_of l.fn.world).nodes
