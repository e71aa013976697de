use Rattle.std.specs.Prelude.{◌+◌, ◌<◌, map}
use Rattle.std.proofs.Common.{arith, subst}
use Rattle.model_laws.specs.Settlement.{ups}
use Rattle.world_laws.specs.Events.{event_of}
use Rattle.world_laws.specs.Runs.{world_of}
use Rattle.settlement.proofs.Events.{all_ups, up_more}
use Rattle.settlement.proofs.settling_world.ups.Goals as goal

pub loop-place-preserved : goal.loop-place-preserved
loop-place-preserved c =
    up_more c.loop-place.place c.args.world.now (map event_of c.loop-place.events.items) (map event_of c.keep_up.new.events.items)
    (ups 1 (world_of c.args.world.now).nodes) (subst (λ n. c.loop-place.place < n) c.count-place-end.ensures.value c.loop-place-test.true)
    c.in_ok-keep_up.ensures c.loop-place.invariant

pub returns : goal.returns
returns c =
    all_ups c.args.world.now c.loop-place.place (c.loop-place.place + 1) (map event_of c.loop-place.events.items)
    (ups 1 (world_of c.args.world.now).nodes) (omega (arith, c.loop-place-test.false, c.count-place-end.ensures.value)) c.loop-place.invariant
