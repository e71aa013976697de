use Rattle.node_worlds.proofs.Restarts.{restarts_on_records}
use Rattle.node_worlds.proofs.laws.restarts_on_records.Goals as goal

pub returns : goal.returns
returns g c = restarts_on_records c.are_apart.ensures g.S.Site.told
