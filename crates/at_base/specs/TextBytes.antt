-- The bytes of a text, whoever holds them.
use Rattle.std.specs.Prelude.{ℕ, List, string_bytes}
use Rattle.at_base.specs.declared.text.Held.{Held}
use Rattle.at_base.specs.declared.text.Held.TheVariants as held

abbrev pub bytes_of : Held → List ℕ
bytes_of (held.Own string) = string_bytes string
bytes_of (held.Shared string) = string_bytes string.value
