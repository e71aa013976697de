use Rattle.mirrored_nets.proofs.ExampleBases.{IsNoneBefore}
use Rattle.mirrored_nets.proofs.asks.is_example.Given as goal

abbrev pub invariant-loop-number : goal.invariant-loop-number
invariant-loop-number l = IsNoneBefore l.base l.number
