-- How long the letters of a net in memory are.
use Rattle.std.specs.Prelude.{ℕ, List, length, ◌≤◌, ◌<◌, ◌^◌}
use Rattle.std.specs.List.{AllByRecursion}
use Rattle.memory_net.specs.Mails.{Mail}
use Rattle.memory_net.specs.Stands.{Stands}
use Rattle.memory_net.specs.declared.host.Host.{Host}

-- all have at most the bytes of the longest content that a node takes
abbrev pub LettersAreShort : Type 0
LettersAreShort =
    (count : ℕ) (hosts : List Host) (mails : List Mail) → count < 2 ^ 64 → Stands count hosts mails → AllByRecursion (λ (m : Mail). length m.bytes ≤ 65536) mails
