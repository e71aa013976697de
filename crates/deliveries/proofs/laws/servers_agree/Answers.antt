use Rattle.deliveries.proofs.ByteNets.{servers_agree}
use Rattle.deliveries.proofs.laws.servers_agree.Goals as goal

pub returns : goal.returns
returns g c = servers_agree g.S.Site.told c.serve_as_nets.ensures c.machines_agree.ensures
