use Rattle.std.proofs.Common.{◌≡◌, ◌++◌, map}
use Rattle.addressing.specs.OutgoingHeaders.{marked}
use Rattle.addressing.proofs.writer.push_parameters.Given as goal

abbrev pub invariant-loop-block : goal.invariant-loop-block
invariant-loop-block l = l.blocks ≡ l.fn.blocks ++ map marked l.yielded
