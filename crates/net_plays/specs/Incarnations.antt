-- How often a node came up.
use Rattle.std.specs.Prelude.{ℕ, ◌≡◌, ◌≤◌, ◌<◌, None, false, max}
use Rattle.at_model.specs.Recovery.{last_incarnation}
use Rattle.at_model.specs.World.{Node, WorldEvent, Turn, Ask, Crash, Up}

-- A node behind so many events came up in each of them at most. It did so in fewer where there are two or more; and where it is down, but for one that
-- never came up: as it went down, it didn't come up.
pub record IsEarly (events : ℕ) (x : Node) : Type 0 where
  pub most : last_incarnation x.journal ≤ events
  pub fewer : last_incarnation x.journal < max 2 events
  pub down : x.book ≡ None → last_incarnation x.journal < max 1 events

-- a start isn't stopped
abbrev pub IsUnstopped : WorldEvent → Type 0
IsUnstopped (Turn n input fates until) = Unit {0}
IsUnstopped (Ask n request fates until) = Unit {0}
IsUnstopped (Crash n) = Unit {0}
IsUnstopped (Up n landed stop) = stop ≡ false
