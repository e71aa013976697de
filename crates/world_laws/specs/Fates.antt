-- The fates of calls, all but the last of which are often yes.
use Rattle.std.specs.Prelude.{ℕ, List, Bool, true, ◌++◌, replicate}

-- so many calls that succeed, and then these
abbrev pub behind_done : ℕ → List Bool → List Bool
behind_done done items = replicate done true ++ items
