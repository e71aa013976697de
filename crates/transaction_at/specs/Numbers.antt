-- Where the seat of a number stands in a list, and how its state is set.
use Rattle.std.specs.Prelude.{ℕ, suc, zero, List, [], ◌∷◌, Bool, nat_eq, ◌<◌, if◌then◌else◌}
use Rattle.std.specs.List.{AllPairs}
use Rattle.at_tables.specs.declared.cells.State.{State}
use Rattle.at_model.specs.Book.{Enlistment}

-- each seat's number is less than those of all later ones
abbrev pub IsRising : List Enlistment → Type 0
IsRising seats = AllPairs (λ s t. s.number < t.number) seats

abbrev pub is_numbered : ℕ → Enlistment → Bool
is_numbered number s = nat_eq s.number number

-- the place of the first seat of this number, or the length where there is none
abbrev pub place_of : ℕ → List Enlistment → ℕ
place_of number [] = 0
place_of number (s ∷ ss) = if is_numbered number s then 0 else suc (place_of number ss)

-- the seat at this place, in this state from now on
abbrev pub state_at : ℕ → State → List Enlistment → List Enlistment
state_at n state [] = []
state_at zero state (s ∷ ss) = record s { state = state } ∷ ss
state_at (suc n) state (s ∷ ss) = s ∷ state_at n state ss
