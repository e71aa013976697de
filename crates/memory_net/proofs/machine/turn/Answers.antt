use Rattle.memory_net.proofs.TurnedNodes.{turns_so}
use Rattle.memory_net.proofs.machine.turn.Goals as goal

-- src/machine.rt:29:1
pub returns : goal.returns
returns c = turns_so _ _ _ _ _ _ _ c.in_ok-connect.ensures c.turn.ensures.turn c.turn.ensures.halted c.turn.ensures.unanswered c.turn.ensures.node c.turn.ensures.role c.requires
