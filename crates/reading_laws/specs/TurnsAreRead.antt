-- The calls of a turn of a node in a net that mirrors a world.
use Rattle.std.specs.Prelude.{ℕ, List, ◌+◌, ◌≡◌, ◌≤◌, Some, take}
use Rattle.at_model.specs.World.{Input, World, nth}
use Rattle.memory_net.specs.Calls.{Turns}
use Rattle.memory_net.specs.Mails.{Mail}
use Rattle.memory_net.specs.declared.host.Host.{Host}
use Rattle.node_at.specs.declared.node.Node.{Node}
use Rattle.node_at.specs.declared.turn.Turned.{Turned}
use Rattle.node_at.specs.declared.turn.Turned.TheVariants as turneds
use Rattle.site_memory.specs.declared.machine.MemSite.{MemSite}
use Rattle.site_model.specs.Told.{Made}
use Rattle.mirrored_nets.specs.Goings.{IsBrought, IsSet, ms_of}
use Rattle.mirrored_nets.specs.Mirrors.{Mirrors}
use Rattle.mirrored_nets.specs.ToldMachines.{IsToldOf}
use Rattle.mirrored_nets.specs.Took.{Adds, HasRoom, IsTriedLine}
use Rattle.mirrored_nets.specs.declared.armed.Armed.{Armed}
use Rattle.call_readings.specs.Reads.{ReadsTurn}

-- The node is up in a net that mirrors a world; its connection brings this input, before whose first step so many calls come, and its machine was
-- told which of its calls is to fail, or that none is.
pub record IsTurnHere (i count lines : ℕ) (bytes : List ℕ) (n : Node) (old : MemSite) (armed : Armed) : Type 0 where
  pub few : count ≤ 8
  pub hosts : List Host
  pub clocks : List ℕ
  pub mails : List Mail
  pub world : World
  pub mirrors : Mirrors count hosts clocks mails world
  pub least : 1 ≤ i
  pub host : Host
  pub here : nth i hosts ≡ Some host
  pub up : host.node ≡ Some n
  pub clock : ℕ
  pub time : nth i clocks ≡ Some clock
  pub input : Input
  pub brought : IsBrought mails i input lines bytes
  pub set : IsSet (clock + ms_of input) host.site old
  pub told : IsToldOf armed old

-- Whatever call is armed, the calls of such a turn for which there is memory, and that tried the line, are read.
abbrev pub TurnsAreRead : Type 0
TurnsAreRead =
    (i count lines : ℕ) (bytes : List ℕ) (n m : Node) (old new : MemSite) (armed : Armed) (r : Turned) (made : List Made)
    → IsTurnHere i count lines bytes n old armed → HasRoom old → Turns bytes r n m old new → Adds made old new → (r ≡ turneds.NoRoom → ⊥) → IsTriedLine lines (take lines made) → ReadsTurn armed lines made r
