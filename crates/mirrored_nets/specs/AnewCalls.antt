-- The calls by which the journal of a node was written anew at the end of a turn.
use Rattle.std.specs.Prelude.{ℕ, List, [], ◌∷◌, ◌++◌, ◌-◌, ◌≡◌, Bool, false, Option, drop, if◌then◌else◌, length, suc}
use Rattle.fated_walks.specs.Fated.{IsBeyond, StartsWith}
use Rattle.site_model.specs.Told.{Made}
use Rattle.mirrored_nets.specs.Fates.{AllDone, anew_of, fates_in}
use Rattle.mirrored_nets.specs.Kept.{is_write}

-- the first of these calls is the write that shuts the first gate of the other file
abbrev pub shuts_first : List Made → Bool
shuts_first [] = false
shuts_first (m ∷ ms) = is_write m.call

-- which of the six the n-th of them is
abbrev pub of_six_in : List Made → ℕ → ℕ
of_six_in anew n = if shuts_first anew then n else suc n

-- What the event asks for is what came to all its steps, behind so many calls that have no fate, and no stop among them.
pub record IsAskedWhole (lines : ℕ) (made : List Made) (fates : List Bool) (until : Option ℕ) : Type 0 where
  pub fates_are : StartsWith (fates_in (drop lines made)) fates
  pub beyond : IsBeyond until (length (fates_in (drop lines made)))

-- the last of the calls by which the journal is written anew failed, and it is that one of the six
pub record FailsAnew (call : ℕ) (anew : List Made) : Type 0 where
  pub front : List Made
  pub last : Made
  pub all : anew ≡ front ++ last ∷ []
  pub done : AllDone front
  pub fails : last.done ≡ false
  pub is : call ≡ of_six_in anew (length anew)

-- how many calls come before them
abbrev pub before_anew : (lines : ℕ) → List Made → ℕ
before_anew lines made = length made - length (anew_of (drop lines made))
