use Rattle.node_at.specs.State.{IsNode, seen}
use Rattle.node_tests.proofs.locals.last.Given as goal

abbrev pub invariant-loop-time : goal.invariant-loop-time
invariant-loop-time l = IsNode (seen l.node)
