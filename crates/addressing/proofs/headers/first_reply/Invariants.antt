use Rattle.std.proofs.Common.{◌≡◌, drop, map}
use Rattle.std.specs.List.{find}
use Rattle.addressing.specs.Headers.{is_reply}
use Rattle.addressing.proofs.headers.first_reply.Given as goal

abbrev pub invariant-loop-block : goal.invariant-loop-block
invariant-loop-block l = find is_reply (map (λ t. t.now) (drop l.block-index l.block-items)) ≡ find is_reply l.headers
