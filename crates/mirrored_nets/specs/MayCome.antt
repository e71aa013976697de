-- What can come to a node of a net in memory.
use Rattle.std.specs.Prelude.{ℕ, List, Bool, ◌+◌, ◌≡◌, ◌≤◌, ◌<◌, ◌^◌, Some, length}
use Rattle.at_model.specs.World.{Input, Deliver, Tick, Raw, nth}
use Rattle.memory_net.specs.Mails.{Mail}
use Rattle.raw_requests.specs.Draws.{Draws}
use Rattle.raw_requests.specs.declared.Drawn.TheVariants as drawns
use Rattle.mirrored_nets.specs.Seen.{Seen}

-- The node of that number is there, and has a clock.
pub record IsNumbered (net : Seen) (i : ℕ) : Type 0 where
  pub few : length net.hosts ≤ 8
  pub least : 1 ≤ i
  pub within : i ≤ length net.hosts
  pub times : length net.clocks ≡ length net.hosts

-- What can come to that node: a letter to it, no longer than a head and a body may be; a tick; or bytes that are refused.
abbrev pub MayCome : List Mail → ℕ → Input → List ℕ → Type 0
MayCome mails i (Deliver k) raw = (m : Mail) × (nth k mails ≡ Some m) × (m.receiver ≡ i) × (length m.bytes ≤ 65536)
MayCome mails i (Tick ms) raw = Unit {0}
MayCome mails i Raw raw = (status : ℕ) × (waits : Bool) × Draws raw (drawns.Refused status waits)

-- Its clock can show the time behind that.
abbrev pub FitsClock : List ℕ → ℕ → Input → Type 0
FitsClock clocks i (Tick ms) = (c : ℕ) → nth i clocks ≡ Some c → c + ms < 2 ^ 64
FitsClock clocks i other = Unit {0}
