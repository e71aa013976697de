use Rattle.world_laws.specs.Events.{event_of}
use Rattle.world_laws.proofs.Runs.{few_after, kept_after, left_after, lost_after, steps_after}
use Rattle.world_laws.proofs.scene.Scene.step.Goals as goal

pub keep_all-requires : goal.keep_all-requires
keep_all-requires c = few_after c.args.self.now c.happen.new.self (event_of c.args.event.now) c.in_ok-happen.ensures.scene c.requires.few

pub returns-clause-scene : goal.returns-clause-scene
returns-clause-scene c =
    kept_after c.args.self.now c.happen.new.self c.keep_all.new.self c.keep_lost.new.self (event_of c.args.event.now) c.node.result c.node-2.result
    c.in_ok-happen.field-0 c.into_parts-taken.result c.in_ok-happen.ensures.scene c.in_ok-happen.ensures.moved c.into_parts-taken.ensures
    c.node.ensures c.node-2.ensures c.in_ok-steps.ensures.scene c.in_ok-keep_lost.ensures

pub returns-clause-steps : goal.returns-clause-steps
returns-clause-steps c =
    steps_after c.args.self.now c.happen.new.self (event_of c.args.event.now) c.in_ok-happen.field-0 c.into_parts-taken.result c.in_ok-steps.steps
    c.in_ok-happen.ensures.scene c.in_ok-happen.ensures.moved c.into_parts-taken.ensures c.in_ok-steps.ensures.steps

pub returns-clause-lost : goal.returns-clause-lost
returns-clause-lost c =
    lost_after c.args.self.now (event_of c.args.event.now) c.in_ok-happen.field-0 c.into_parts-taken.result c.in_ok-happen.ensures.moved
    c.into_parts-taken.ensures

pub returns-clause-left : goal.returns-clause-left
returns-clause-left c =
    left_after c.args.self.now (event_of c.args.event.now) c.in_ok-happen.field-0 c.into_parts-taken.result c.in_ok-happen.ensures.moved
    c.into_parts-taken.ensures
