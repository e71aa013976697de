use Rattle.world_laws.proofs.Runs.{opened}
use Rattle.world_laws.proofs.world.World.new.Goals as goal

pub invariant_of-result : goal.invariant_of-result
invariant_of-result c =
    opened c.args.nodes c.in_ok-new.field-0 c.new-2.result.items c.requires.0 c.requires.1 c.in_ok-new.ensures c.new-2.ensures.items
