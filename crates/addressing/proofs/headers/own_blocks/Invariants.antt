use Rattle.std.proofs.Common.{◌≡◌, ◌++◌, drop, map}
use Rattle.addressing.specs.Headers.{own_blocks}
use Rattle.addressing.proofs.headers.own_blocks.Given as goal

abbrev pub invariant-loop-block : goal.invariant-loop-block
invariant-loop-block l = l.own ++ own_blocks (map (λ t. t.now) (drop l.block-index l.block-items)) ≡ own_blocks l.blocks
