-- What a turn did of a node in a net that mirrors a world, in which the node went down.
use Rattle.std.specs.Prelude.{ℕ, List, ◌++◌, ◌+◌, ◌≡◌, ◌≤◌, Bool, Option, Some}
use Rattle.at_base.specs.declared.record.Record.{Record}
use Rattle.at_model.specs.World.{Input, World, WorldEvent, Turn, nth}
use Rattle.memory_net.specs.Mails.{Mail}
use Rattle.memory_net.specs.declared.host.Host.{Host}
use Rattle.node_at.specs.Doings.{came_of}
use Rattle.node_at.specs.State.{seen}
use Rattle.node_at.specs.TurnText.{TurnStep}
use Rattle.node_at.specs.declared.node.Node.{Node}
use Rattle.node_events.specs.NodeEvents.{front_by}
use Rattle.site_memory.specs.declared.arm.Choice.{Choice}
use Rattle.site_memory.specs.declared.machine.MemSite.{MemSite}
use Rattle.told_stops.specs.ToldStops.{Tells}
use Rattle.mirrored_nets.specs.Goings.{IsBrought, IsSet, ms_of}
use Rattle.mirrored_nets.specs.Mirrors.{Mirrors}
use Rattle.mirrored_nets.specs.Took.{TookTurn}
use Rattle.mirrored_nets.specs.declared.came.Came.TheVariants as cames

-- The machine went back to a stop: the node did all its steps, and gave their effects; the first of them are those of the event that counted.
pub record TellsFallen (w : World) (event : WorldEvent) (n m : Node) (fates : List Bool) : Type 0 where
  pub front : List TurnStep
  pub rest : List TurnStep
  pub gave : (seen m).effects ≡ came_of front ++ came_of rest
  pub tells : Tells w event (seen n) front fates

-- It halted as the record of its first step was appended, and the step counted where that stands.
pub record TellsHalted (w : World) (event : WorldEvent) (n : Node) (fates : List Bool) : Type 0 where
  pub step : TurnStep
  pub entry : Record
  pub records : step.entry ≡ Some entry
  pub stands : Bool
  pub tells : Tells w event (seen n) (front_by stands step) fates

-- So does each turn that was taken at a node of such a net.
pub record TurnsTell : Type 0 where
  pub fallen : (count : ℕ) (hosts : List Host) (clocks : List ℕ) (mails more : List Mail) (w : World) (i c : ℕ) (h g : Host) (n : Node) (input : Input) (lines : ℕ) (bytes : List ℕ) (old : MemSite)
      (fates : List Bool) (until : Option ℕ)
      → count ≤ 8 → Mirrors count hosts clocks mails w → 1 ≤ i → nth i hosts ≡ Some h → h.node ≡ Some n → nth i clocks ≡ Some c → IsBrought mails i input lines bytes → IsSet (c + ms_of input) h.site old
      → (T : TookTurn i count lines bytes n old g mails more fates until) → (kept : ℕ) (choice : Choice) → T.came ≡ cames.Falls kept choice → TellsFallen w (Turn i input fates until) n T.node fates
  pub halted : (count : ℕ) (hosts : List Host) (clocks : List ℕ) (mails more : List Mail) (w : World) (i c : ℕ) (h g : Host) (n : Node) (input : Input) (lines : ℕ) (bytes : List ℕ) (old : MemSite)
      (fates : List Bool) (until : Option ℕ)
      → count ≤ 8 → Mirrors count hosts clocks mails w → 1 ≤ i → nth i hosts ≡ Some h → h.node ≡ Some n → nth i clocks ≡ Some c → IsBrought mails i input lines bytes → IsSet (c + ms_of input) h.site old
      → (T : TookTurn i count lines bytes n old g mails more fates until) → T.came ≡ cames.Halts → TellsHalted w (Turn i input fates until) n fates
