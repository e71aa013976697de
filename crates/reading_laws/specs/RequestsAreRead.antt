-- The calls of a request of a node in a net that mirrors a world.
use Rattle.std.specs.Prelude.{ℕ, List, ◌≡◌, ◌≤◌, Some}
use Rattle.at_base.specs.declared.event.Local.{Local}
use Rattle.at_model.specs.World.{World, nth}
use Rattle.memory_net.specs.Calls.{Requests}
use Rattle.memory_net.specs.Closed.{IsExampleRequest}
use Rattle.memory_net.specs.Mails.{Mail}
use Rattle.memory_net.specs.declared.host.Host.{Host}
use Rattle.node_at.specs.declared.local.Locally.{Locally}
use Rattle.node_at.specs.declared.local.Locally.TheVariants as answers
use Rattle.node_at.specs.declared.node.Node.{Node}
use Rattle.site_memory.specs.declared.machine.MemSite.{MemSite}
use Rattle.site_model.specs.Told.{Made}
use Rattle.mirrored_nets.specs.Goings.{IsSet}
use Rattle.mirrored_nets.specs.Mirrors.{Mirrors}
use Rattle.mirrored_nets.specs.ToldMachines.{IsToldOf}
use Rattle.mirrored_nets.specs.Took.{Adds, HasRoom}
use Rattle.mirrored_nets.specs.declared.armed.Armed.{Armed}
use Rattle.call_readings.specs.Reads.{ReadsRequest}

-- The node is up in a net that mirrors a world; its program makes one of the requests that can be, and its machine was told which of its calls is
-- to fail, or that none is.
pub record IsRequestHere (i count : ℕ) (request : Local) (n : Node) (old : MemSite) (armed : Armed) : Type 0 where
  pub few : count ≤ 8
  pub hosts : List Host
  pub clocks : List ℕ
  pub mails : List Mail
  pub world : World
  pub mirrors : Mirrors count hosts clocks mails world
  pub least : 1 ≤ i
  pub host : Host
  pub here : nth i hosts ≡ Some host
  pub up : host.node ≡ Some n
  pub clock : ℕ
  pub time : nth i clocks ≡ Some clock
  pub named : IsExampleRequest request
  pub set : IsSet clock host.site old
  pub told : IsToldOf armed old

-- Whatever call is armed, the calls of such a request for which there is memory are read.
abbrev pub RequestsAreRead : Type 0
RequestsAreRead =
    (i count : ℕ) (request : Local) (n m : Node) (old new : MemSite) (armed : Armed) (answer : Locally) (made : List Made)
    → IsRequestHere i count request n old armed → HasRoom old → Requests request answer n m old new → Adds made old new → (answer ≡ answers.NoRoom → ⊥) → ReadsRequest armed made answer
