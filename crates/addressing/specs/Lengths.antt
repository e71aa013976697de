-- Namespaces that no endpoint has room for.
use Rattle.std.specs.Prelude.{ℕ, List, Bool, false, Option, Some, None, length, nat_lt}
use Rattle.at_base.specs.declared.limits.TheConstants.{MOST_ENDPOINT}

-- of more than 2,048 bytes
abbrev pub is_long : Option (List ℕ) → Bool
is_long None = false
is_long (Some space) = nat_lt MOST_ENDPOINT (length space)
