-- A play of the schedule of a seed.
use Rattle.std.specs.Prelude.{ℕ, ◌≡◌, false}
use Rattle.replay_cmd.specs.MadeCourses.{world_made}
use Rattle.schedules.specs.Generator.{made}
use Rattle.net_plays.specs.NetReports.{IsPlayOf}
use Rattle.net_plays.specs.Plays.{Play}

-- Its world is the one that is computed of the seed.
abbrev pub IsPlayedAs : ℕ → ℕ → Type 0
IsPlayedAs seed steps = (play : Play) → IsPlayOf false (made seed steps) play → play.world ≡ world_made seed steps

abbrev pub MadeArePlayed : Type 0
MadeArePlayed = (seed steps : ℕ) → IsPlayedAs seed steps
