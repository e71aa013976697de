use Rattle.determined_nodes.proofs.TurnsAreDetermined.{turns_are_determined}
use Rattle.determined_nodes.proofs.laws.turns_are_determined.Goals as goal

pub returns : goal.returns
returns c =
    turns_are_determined c.what_is_posted_arrives.ensures.one c.bytes_mean_one_thing.ensures c.bytes_wait_or_not.ensures c.links_hold.ensures c.calls_fail_as_told.ensures c.steps_reply.ensures c.are_bodies.ensures
