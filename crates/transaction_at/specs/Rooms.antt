-- Room for the seats of a list: for a few of them, and then for as many as a transaction takes.
use Rattle.std.specs.Prelude.{ℕ, List, Bool, ◌+◌, ◌||◌, if◌then◌else◌, length, max, nat_eq, nat_le, nat_lt}
use Rattle.at_base.specs.declared.limits.TheConstants.{MOST_SEATS}
use Rattle.at_model.specs.Book.{Enlistment}
use Rattle.transaction_at.specs.declared.room.TheConstants.{FEW_SEATS}

-- how many seats a list of this length has room for, at the least
abbrev pub room_of : ℕ → ℕ
room_of n = if nat_eq n 0 then 0 else if nat_le n FEW_SEATS then FEW_SEATS else max MOST_SEATS n

-- there is room for one seat more in this list, or with this room
abbrev pub has_room : ℕ → List Enlistment → Bool
has_room room seats = nat_lt (length seats) (room_of (length seats)) || nat_le (room_of (length seats + 1)) room
