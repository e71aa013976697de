use Rattle.deliveries.proofs.GrowingServers.{servers_grow}
use Rattle.deliveries.proofs.laws.servers_grow.Goals as goal

pub returns : goal.returns
returns g c = servers_grow g.S.Site.told
