use Rattle.node_worlds.proofs.NetWorlds.{nets_are_worlds}
use Rattle.node_worlds.proofs.laws.nets_are_worlds.Goals as goal

pub returns : goal.returns
returns g c = nets_are_worlds c.walks_the_due.ensures c.recovers_the_compacted.ensures c.shrinks_the_same.ensures g.S.Site.told
