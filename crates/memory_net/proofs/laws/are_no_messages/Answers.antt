use Rattle.memory_net.proofs.NoMessages.{are_no_messages}
use Rattle.memory_net.proofs.laws.are_no_messages.Goals as goal

pub returns : goal.returns
returns c = are_no_messages c.bytes_ask_one_thing.ensures c.bytes_say_one_thing.ensures
