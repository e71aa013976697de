use Rattle.mirrored_nets.proofs.DownMachines.{down_are_marked}
use Rattle.mirrored_nets.proofs.laws.down_are_marked.Goals as goal

pub returns : goal.returns
returns c = down_are_marked c.are_apart.ensures c.examples_are_node_bases.ensures c.serve_as_nets.ensures c.crashes_are_met.ensures
