use Rattle.determined_nodes.proofs.StartsAreDetermined.{starts_are_determined}
use Rattle.determined_nodes.proofs.laws.starts_are_determined.Goals as goal

pub returns : goal.returns
returns c = starts_are_determined c.are_apart.ensures c.links_hold.ensures c.calls_fail_as_told.ensures c.starts_fail_for_want.ensures
