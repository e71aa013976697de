use Rattle.mirrored_nets.proofs.DueStarts.{down_can_begin}
use Rattle.mirrored_nets.proofs.laws.down_can_begin.Goals as goal

pub returns : goal.returns
returns c = down_can_begin c.are_apart.ensures c.examples_are_node_bases.ensures c.serve_as_nets.ensures c.crashes_are_met.ensures
