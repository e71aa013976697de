use Rattle.node_worlds.proofs.Agreement.{nets_agree}
use Rattle.node_worlds.proofs.laws.nets_agree.Goals as goal

pub returns : goal.returns
returns g c = nets_agree g.S.Site.told c.nets_are_worlds.ensures
