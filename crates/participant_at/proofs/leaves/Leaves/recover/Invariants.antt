use Rattle.std.proofs.Common.{◌≡◌, ◌++◌, drop}
use Rattle.at_model.specs.Recovery.{leaves_of}
use Rattle.participant_at.proofs.leaves.Leaves.recover.Given as goal

abbrev pub invariant-loop-entry : goal.invariant-loop-entry
invariant-loop-entry l = l.leaves.items ++ leaves_of (drop l.entry-index l.live) ≡ leaves_of l.live
