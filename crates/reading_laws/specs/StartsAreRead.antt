-- The calls of a start of a node that has started before.
use Rattle.std.specs.Prelude.{ℕ, List, Err, Result, ◌≡◌}
use Rattle.memory_net.specs.Calls.{Begins}
use Rattle.node_at.specs.declared.fault.StartFault.{StartFault}
use Rattle.node_at.specs.declared.fault.StartFault.TheVariants.{NoMemory}
use Rattle.node_at.specs.declared.node.Node.{Node}
use Rattle.site_memory.specs.declared.machine.MemSite.{MemSite}
use Rattle.site_model.specs.Told.{Made}
use Rattle.mirrored_nets.specs.DueStarts.{CanBegin}
use Rattle.mirrored_nets.specs.LeftStarts.{IsMarked}
use Rattle.mirrored_nets.specs.ToldMachines.{IsToldOf}
use Rattle.mirrored_nets.specs.Took.{Adds}
use Rattle.mirrored_nets.specs.declared.armed.Armed.{Armed}
use Rattle.call_readings.specs.ReadsStart.{ReadsStart}

-- Whatever call is armed, the calls of a start for which there is memory are read, on a machine that has files of version 2 and can begin.
abbrev pub StartsAreRead : Type 0
StartsAreRead =
    (base : List ℕ) (result : Result Node StartFault) (old t : MemSite) (last : ℕ) (armed : Armed) (made : List Made)
    → IsMarked last old → CanBegin old → IsToldOf armed old → Begins base result old t → Adds made old t → (result ≡ Err NoMemory → ⊥) → ReadsStart armed made result old t
