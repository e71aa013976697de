use Rattle.asked_nets.proofs.StartedFiles.{begun_are_marked}
use Rattle.asked_nets.proofs.laws.begun_are_marked.Goals as goal

pub returns : goal.returns
returns c =
    begun_are_marked c.are_apart.ensures c.examples_are_node_bases.ensures c.serve_as_nets.ensures c.crashes_are_met.ensures c.shrinks_the_same.ensures c.down_are_marked.ensures
