use Rattle.std.proofs.Common.{◌≡◌, drop}
use Rattle.node_at.specs.Steps.{status_in}
use Rattle.node_at.proofs.step.status_in.Given as goal

abbrev pub invariant-loop-out : goal.invariant-loop-out
invariant-loop-out l = status_in (drop l.out-index l.outs) ≡ status_in l.outs
