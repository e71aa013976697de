use Rattle.node_at.specs.State.{IsNode, seen}
use Rattle.turn_loop.proofs.take_again.Given as goal

abbrev pub invariant-loop : goal.invariant-loop
invariant-loop l = IsNode (seen l.node)
