use Rattle.std.proofs.Common.{ℕ, List, ◌++◌}
use Rattle.std.specs.Prelude.{bit_xor, replicate}
use Rattle.sha2.specs.Hashers.{Holds256}
use Rattle.address_seals.proofs.hmac.fill.Given as goal

abbrev pub invariant-loop-place : goal.invariant-loop-place
invariant-loop-place l = (fed : List ℕ) → Holds256 l.fn.hasher fed → Holds256 l.hasher (fed ++ replicate l._place (bit_xor 0 l.pad))
