-- The status that a turn answers, read off what its steps gave.
use Rattle.std.specs.Prelude.{ℕ, List, [], ◌∷◌, Option, Some, None}
use Rattle.world_laws.specs.declared.posts.Counted.{Counted}
use Rattle.world_laws.specs.declared.step_outs.Answer.{Answer}

-- The HTTP status of an answer, 0 where there is none.
abbrev pub status_of : Option Answer → ℕ
status_of None = 0
status_of (Some a) = a.status

-- What a turn of these steps answers, also where the call for it failed.
abbrev pub status_in : List Counted → ℕ
status_in [] = 0
status_in (first ∷ rest) = status_of first.answer
