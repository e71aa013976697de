use Rattle.node_worlds.proofs.CrashedNets.{crashes_are_met}
use Rattle.node_worlds.proofs.lives.crashes_are_met.Goals as goal

pub returns : goal.returns
returns g c =
    crashes_are_met c.are_bodies.ensures c.grows_by_one.ensures c.shrinks_the_same.ensures g.S.Site.told g.S.Site.only_now c.restarts_on_records.ensures c.are_apart.ensures
