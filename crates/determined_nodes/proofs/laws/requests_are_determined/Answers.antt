use Rattle.determined_nodes.proofs.RequestsAreDetermined.{requests_are_determined}
use Rattle.determined_nodes.proofs.laws.requests_are_determined.Goals as goal

pub returns : goal.returns
returns c = requests_are_determined c.what_is_posted_arrives.ensures.one c.links_hold.ensures c.calls_fail_as_told.ensures c.are_bodies.ensures
