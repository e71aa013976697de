-- Which messages were delivered: for each from the first on, whether it was. Those behind the list weren't.
use Rattle.std.specs.Prelude.{ℕ, List, [], ◌∷◌, Option, Some, None, Bool, true, false, ◌&&◌, ◌+◌, zero, suc}

-- The list with yes at this place, counted from 0.
abbrev pub yes_at : ℕ → List Bool → List Bool
yes_at zero [] = true ∷ []
yes_at zero (b ∷ rest) = true ∷ rest
yes_at (suc k) [] = false ∷ yes_at k []
yes_at (suc k) (b ∷ rest) = b ∷ yes_at k rest

-- The lowest of so many messages, numbered from this one on, that wasn't delivered.
abbrev pub lowest : ℕ → ℕ → List Bool → Option ℕ
lowest zero k delivered = None
lowest (suc count) k [] = Some k
lowest (suc count) k (false ∷ rest) = Some k
lowest (suc count) k (true ∷ rest) = lowest count (k + 1) rest

-- So many, from the first on, were delivered.
abbrev pub all_yes : ℕ → List Bool → Bool
all_yes zero delivered = true
all_yes (suc count) [] = false
all_yes (suc count) (b ∷ rest) = b && all_yes count rest
