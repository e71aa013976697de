use Rattle.std.proofs.Common.{◌≡◌, drop, map}
use Rattle.soap_profile.specs.Envelopes.{not_understood}
use Rattle.soap_profile.proofs.envelope.not_understood.Given as goal

abbrev pub invariant-loop-block : goal.invariant-loop-block
invariant-loop-block l = not_understood (map (λ t. t.now) (drop l.block-index l.block-items)) ≡ not_understood l.blocks
