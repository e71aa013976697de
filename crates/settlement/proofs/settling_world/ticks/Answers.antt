use Rattle.std.specs.Prelude.{◌+◌, ◌<◌, ◌++◌, ◌∷◌, [], map}
use Rattle.std.proofs.Common.{arith, ap, ◌∙◌, subst}
use Rattle.model_laws.specs.Settlement.{ticks}
use Rattle.world_laws.specs.Events.{event_of}
use Rattle.world_laws.specs.Runs.{world_of}
use Rattle.settlement.proofs.Events.{all_ticks, tick_more}
use Rattle.settlement.proofs.settling_world.ticks.Goals as goal

pub loop-place-preserved : goal.loop-place-preserved
loop-place-preserved c =
    tick_more c.loop-place.place c.args.world.now (map event_of c.loop-place.events.items) (map event_of c.keep.new.events.items)
    (ticks 1 (world_of c.args.world.now).nodes) (subst (λ n. c.loop-place.place < n) c.count-place-end.ensures.value c.loop-place-test.true)
    (c.in_ok-keep.ensures.kept ∙ ap (λ e. map event_of c.loop-place.events.items ++ e ∷ []) c.tick.ensures) c.loop-place.invariant

pub returns : goal.returns
returns c =
    all_ticks c.args.world.now c.loop-place.place (c.loop-place.place + 1) (map event_of c.loop-place.events.items)
    (ticks 1 (world_of c.args.world.now).nodes) (omega (arith, c.loop-place-test.false, c.count-place-end.ensures.value)) c.loop-place.invariant
