use Rattle.node_worlds.proofs.Machines.{runs_on_machines}
use Rattle.node_worlds.proofs.lives.runs_on_machines.Goals as goal

pub returns : goal.returns
returns g c = runs_on_machines c.are_bodies.ensures c.grows_by_one.ensures c.shrinks_the_same.ensures g.S.Site.told c.restarts_on_records.ensures
