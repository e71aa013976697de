use Rattle.std.proofs.Common.{◌≡◌, ◌++◌}
use Rattle.participant_at.specs.LeafPlans.{leaves_lost}
use Rattle.participant_at.proofs.leaves.Leaves.lost.Given as goal

abbrev pub invariant-loop-leaf : goal.invariant-loop-leaf
invariant-loop-leaf l = l.effects ++ leaves_lost l.leaf-iterator ≡ leaves_lost l.fn.self
