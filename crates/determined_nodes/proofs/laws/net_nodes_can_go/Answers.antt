use Rattle.determined_nodes.proofs.NetNodes.{net_nodes}
use Rattle.determined_nodes.proofs.laws.net_nodes_can_go.Goals as goal

pub returns : goal.returns
returns c =
    net_nodes (record {
      tell = c.hosts_tell_receivers.ensures;
      bases = c.examples_are_node_bases.ensures;
      closes = c.stays_closed.ensures;
      nets = c.serve_as_nets.ensures;
      crashes = c.crashes_are_met.ensures;
      calls = c.calls_post.ensures;
      images = c.chosen_are_images.ensures;
      bodies = c.are_bodies.ensures;
      grows = c.grows_by_one.ensures;
      shrinks = c.shrinks_the_same.ensures;
      restarts = c.restarts_on_records.ensures;
    })
    c.posts_say.ensures c.posts_dont_wait.ensures c.ticks_ask.ensures c.bytes_mean_one_thing.ensures c.bytes_wait_or_not.ensures c.bare_are_in_limits.ensures c.examples_are_node_bases.ensures c.serve_as_nets.ensures
    c.stays_closed.ensures c.chosen_are_images.ensures
