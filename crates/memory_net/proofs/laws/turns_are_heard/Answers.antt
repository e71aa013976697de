use Rattle.memory_net.proofs.HeardTurns.{turns_are_heard}
use Rattle.memory_net.proofs.laws.turns_are_heard.Goals as goal

pub returns : goal.returns
returns c = turns_are_heard c.links_hold.ensures
