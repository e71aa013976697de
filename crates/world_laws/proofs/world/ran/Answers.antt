use Rattle.world_laws.proofs.Runs.{whole_run}
use Rattle.world_laws.proofs.world.ran.Goals as goal

pub returns-clause-world : goal.returns-clause-world
returns-clause-world c =
    whole_run c.loop-event.world c.args.nodes c.loop-event.event-index c.args.events.now c.loop-event.invariant.0
    c.loop-event.invariant.1 c.loop-event-test.false
