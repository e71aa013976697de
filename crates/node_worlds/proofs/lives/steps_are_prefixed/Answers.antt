use Rattle.node_worlds.proofs.LifeLaws.{steps_are_prefixed}
use Rattle.node_worlds.proofs.lives.steps_are_prefixed.Goals as goal

pub returns : goal.returns
returns g c = steps_are_prefixed c.are_bodies.ensures c.grows_by_one.ensures g.S.Site.told
