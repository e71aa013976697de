use Rattle.std.proofs.Common.{take}
use Rattle.address_seals.specs.Seals.{xored}
use Rattle.sha2.specs.Hashers.{Holds256}
use Rattle.address_seals.proofs.hmac.mixed.Given as goal

abbrev pub invariant-loop-byte : goal.invariant-loop-byte
invariant-loop-byte l = Holds256 l.hasher (xored l.pad (take l.byte-index l.key))
