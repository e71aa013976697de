use Rattle.deliveries.proofs.ByteNets.{serve_as_nets}
use Rattle.deliveries.proofs.laws.serve_as_nets.Goals as goal

pub returns : goal.returns
returns g c =
    serve_as_nets c.nodes_own_is_deliverable.ensures c.steps_pass_on.ensures c.recovery_passes_on.ensures c.paths_name_targets.ensures c.steps_keep_place.ensures
    c.walks_the_due.ensures c.recovers_the_compacted.ensures c.shrinks_the_same.ensures c.incarnations_rise.ensures c.posts_bring.ensures g.S.Site.told c.runs_on_machines.ensures c.nets_keep.ensures
