use Rattle.node_worlds.proofs.GrowingNets.{nets_grow}
use Rattle.node_worlds.proofs.laws.nets_grow.Goals as goal

pub returns : goal.returns
returns g c = nets_grow g.S.Site.told
