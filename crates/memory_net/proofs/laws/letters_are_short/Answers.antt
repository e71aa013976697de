use Rattle.memory_net.proofs.ShortLetters.{letters_short}
use Rattle.memory_net.proofs.laws.letters_are_short.Goals as goal

pub returns : goal.returns
returns c = letters_short c.examples_are_node_bases.ensures c.paths_name_targets.ensures c.brief_are_short.ensures c.stays_closed.ensures
