use Rattle.memory_net.proofs.ClosedNodes.{ask_so}
use Rattle.memory_net.proofs.laws.examples_ask_so.Goals as goal

pub returns : goal.returns
returns c = ask_so c.examples_are_node_bases.ensures c.nodes_own_is_deliverable.ensures
