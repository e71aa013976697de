-- Nodes that start on the machines of a net that mirrors a world.
use Rattle.std.specs.Prelude.{ℕ, List, None, Some, Err, Ok, Result, ◌≡◌, ◌≤◌}
use Rattle.at_model.specs.World.{World, nth}
use Rattle.memory_net.specs.Calls.{Begins}
use Rattle.memory_net.specs.Mails.{Mail}
use Rattle.memory_net.specs.declared.host.Host.{Host}
use Rattle.node_at.specs.declared.fault.StartFault.{StartFault}
use Rattle.node_at.specs.declared.fault.StartFault.TheVariants.{Disk}
use Rattle.node_at.specs.declared.node.Node.{Node}
use Rattle.site_memory.specs.declared.machine.MemSite.{MemSite}
use Rattle.site_model.specs.Told.{Made}
use Rattle.mirrored_nets.specs.Mirrors.{Mirrors}
use Rattle.mirrored_nets.specs.LeftStarts.{IsMarked}
use Rattle.mirrored_nets.specs.ToldMachines.{IsToldOf}
use Rattle.mirrored_nets.specs.Took.{Adds}
use Rattle.mirrored_nets.specs.declared.armed.Armed.{Armed}
use Rattle.call_readings.specs.ReadsStart.{ReadsStart}
use Rattle.asked_nets.specs.ReadSteps.{HasBegun}

-- The machine of a node that is down, among whose records is a Start, has files of version 2.
abbrev pub BegunAreMarked : Type 0
BegunAreMarked =
    (count : ℕ) (hosts : List Host) (clocks : List ℕ) (mails : List Mail) (w : World) (i : ℕ) (h : Host) → count ≤ 8 → Mirrors count hosts clocks mails w → nth i hosts ≡ Some h → h.node ≡ None → HasBegun h.site
    → (last : ℕ) × IsMarked last h.site

-- It was done, or the disk failed.
abbrev pub IsTried : Result Node StartFault → Type 0
IsTried (Ok node) = Unit {0}
IsTried (Err Disk) = Unit {0}
IsTried (Err other) = ⊥

-- The calls of such a start are read on such a machine, also of a node whose incarnations are spent.
abbrev pub TriedAreRead : Type 0
TriedAreRead =
    (base : List ℕ) (result : Result Node StartFault) (old t : MemSite) (last : ℕ) (armed : Armed) (made : List Made)
    → IsMarked last old → IsToldOf armed old → Begins base result old t → Adds made old t → IsTried result → ReadsStart armed made result old t
