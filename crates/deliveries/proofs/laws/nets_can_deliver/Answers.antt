use Rattle.deliveries.proofs.NetForms.{nets_can_deliver}
use Rattle.deliveries.proofs.laws.nets_can_deliver.Goals as goal

pub returns : goal.returns
returns g c =
    nets_can_deliver g.S.Site.told c.nodes_own_is_deliverable.ensures c.steps_pass_on.ensures c.recovery_passes_on.ensures c.paths_name_targets.ensures c.steps_keep_place.ensures
    c.walks_the_due.ensures c.recovers_the_compacted.ensures c.shrinks_the_same.ensures c.incarnations_rise.ensures
