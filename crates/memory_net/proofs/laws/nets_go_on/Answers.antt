use Rattle.memory_net.proofs.GoingOn.{go_on}
use Rattle.memory_net.proofs.laws.nets_go_on.Goals as goal

pub returns : goal.returns
returns c =
    go_on c.hosts_tell_receivers.ensures c.examples_are_node_bases.ensures c.stays_closed.ensures c.serve_as_nets.ensures c.crashes_are_met.ensures c.calls_post.ensures c.chosen_are_images.ensures
    c.examples_ask_so.ensures c.examples_are_apart.ensures c.servers_agree.ensures
