-- What is printed of a schedule that is made of a seed.
use Rattle.std.specs.Prelude.{ℕ, List, Option, length, take, ◌≤◌}
use Rattle.std.specs.Io.KnownBytes.{Appends}
use Rattle.net_plays.specs.MadePlays.{IsPlayedAs}
use Rattle.replay_cmd.specs.Laws.{IsSafe}
use Rattle.replay_cmd.specs.MadeCourses.{summary_of, world_made}

-- The whole line was printed. It is of the world of a replay of that schedule, which has four nodes: no two participants of one transaction end
-- differently in it, with all else that holds of every run.
pub record IsSummed (seed steps : ℕ) (old new : Option (List ℕ)) : Type 0 where
  pub printed : Appends old new (summary_of seed steps)
  pub safe : IsSafe 4 (world_made seed steps)
  pub played : IsPlayedAs seed steps

-- a beginning of the line was printed
pub record IsSummedInPart (seed steps : ℕ) (old new : Option (List ℕ)) : Type 0 where
  pub count : ℕ
  pub within : count ≤ length (summary_of seed steps)
  pub printed : Appends old new (take count (summary_of seed steps))
