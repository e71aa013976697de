use Rattle.memory_net.proofs.Receivers.{tell}
use Rattle.memory_net.proofs.laws.hosts_tell_receivers.Goals as goal

pub returns : goal.returns
returns c = tell c.examples_are_apart.ensures c.paths_name_targets.ensures
