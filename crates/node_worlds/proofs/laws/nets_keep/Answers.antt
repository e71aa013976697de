use Rattle.node_worlds.proofs.KeptRecords.{nets_keep}
use Rattle.node_worlds.proofs.laws.nets_keep.Goals as goal

pub returns : goal.returns
returns g c = nets_keep c.grows_by_one.ensures c.shrinks_the_same.ensures g.S.Site.told
