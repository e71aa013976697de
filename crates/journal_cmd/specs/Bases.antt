-- The base of a node whose journal is given to an audit.
use Rattle.std.specs.Prelude.{ℕ, List, ◌-◌, Bool, ◌&&◌, not, nat_eq, get_or, length}
use Rattle.endpoints.specs.Addresses.{slash}
use Rattle.schedules.specs.InitiatorLines.{is_base}

-- a base stands before paths, so it has no slash at its end
abbrev pub ends_in_slash : List ℕ → Bool
ends_in_slash base = nat_eq (get_or base (length base - 1) 0) slash

abbrev pub is_journal_base : List ℕ → Bool
is_journal_base base = is_base base && not (ends_in_slash base)
