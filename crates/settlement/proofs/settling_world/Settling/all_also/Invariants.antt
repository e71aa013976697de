use Rattle.std.specs.Prelude.{◌≡◌, drop, map}
use Rattle.model_laws.specs.Settlement.{all_also}
use Rattle.world_laws.specs.Events.{event_of}
use Rattle.settlement.proofs.settling_world.Settling.all_also.Given as goal

abbrev pub invariant-loop-event : goal.invariant-loop-event
invariant-loop-event l =
    (l.settling.past ≡ l.fn.self.past)
    × (all_also (map event_of (drop l.event-index l.fn.all)) l.settling.settling ≡ all_also (map event_of l.fn.all) l.fn.self.settling)
