-- What is known of a file that is held.
use Rattle.std.specs.Prelude.{Bool, Option, Some, None, true}
use Rattle.system_calls.specs.Calls.{Number}
use Rattle.atx_sites.specs.declared.open_file.Held.{Held}

-- a sync of it failed, or it isn't open: no sync of it succeeds
abbrev pub is_lost : {F : Type 0} → Option (Held F) → Bool
is_lost (Some held) = held.is_lost
is_lost None = true

-- its number; none where none is open
abbrev pub number_of : {F : Type 0} → (F → Number) → Option (Held F) → Number
number_of number (Some held) = number held.file
number_of number None = None
