use Rattle.memory_net.proofs.ClosedNodes.{stays_closed}
use Rattle.memory_net.proofs.laws.stays_closed.Goals as goal

pub returns : goal.returns
returns g c =
    stays_closed g.S.Site.told c.examples_are_node_bases.ensures c.paths_name_targets.ensures c.steps_keep_place.ensures c.walks_the_due.ensures c.recovers_the_compacted.ensures
    c.shrinks_the_same.ensures c.incarnations_rise.ensures c.posts_bring.ensures c.runs_on_machines.ensures c.nets_keep.ensures c.serve_as_nets.ensures
