-- What a start of a node on its machine came to, and as what its calls are read.
use Rattle.std.specs.Prelude.{ℕ, List, ◌≡◌, Bool, None, Ok, Result, Some, length}
use Rattle.memory_net.specs.Calls.{Begins, IsServing}
use Rattle.memory_net.specs.declared.host.Host.{Host}
use Rattle.node_at.specs.declared.fault.StartFault.{StartFault}
use Rattle.node_at.specs.declared.node.Node.{Node}
use Rattle.site_memory.specs.declared.arm.Choice.TheVariants.{Keep}
use Rattle.site_memory.specs.declared.machine.MemSite.{MemSite}
use Rattle.site_model.specs.Told.{Made}
use Rattle.mirrored_nets.specs.Took.{Adds, FellBack}
use Rattle.mirrored_nets.specs.declared.armed.Armed.{Armed}
use Rattle.call_readings.specs.ReadsStart.{LandsBy, StartsAs}
use Rattle.call_readings.specs.declared.became.Became.{Became}
use Rattle.call_readings.specs.declared.became.Became.TheVariants.{Stays, Falls, Halts, FallsAnew, HaltsAnew}

-- the node came up on its machine
pub record CameUp (result : Result Node StartFault) (t : MemSite) (new : Host) : Type 0 where
  pub node : Node
  pub is : result ≡ Ok node
  pub up : new.node ≡ Some node
  pub site : new.site ≡ t
  pub serving : IsServing node

-- The host behind it: up, or down on what a crash left behind so many of its calls. A call that fails ends the start: all are kept, and the files as
-- they read.
abbrev pub LeftStart : Became → Result Node StartFault → (old t : MemSite) → List Made → Host → Type 0
LeftStart Stays result old t made new = CameUp result t new
LeftStart (Falls kept choice) result old t made new = (new.node ≡ None) × FellBack old t kept choice new.site
LeftStart Halts result old t made new = (new.node ≡ None) × FellBack old t (length made) Keep new.site
LeftStart (FallsAnew kept choice) result old t made new = ⊥
LeftStart HaltsAnew result old t made new = ⊥

pub record DidStart (base : List ℕ) (old : MemSite) (new : Host) (calls : ℕ) : Type 0 where
  pub result : Result Node StartFault
  pub site : MemSite
  pub begins : Begins base result old site
  pub made : List Made
  pub adds : Adds made old site
  pub became : Became
  pub left : LeftStart became result old site made new
  pub calls_are : calls ≡ length made

-- Its calls, of which this one was armed, are those of a start whose Start landed, or didn't, and that met a fault, or none.
pub record ReadStart (armed : Armed) (base : List ℕ) (old : MemSite) (new : Host) (landed stop : Bool) (calls : ℕ) : Type 0 where
  pub did : DidStart base old new calls
  pub reads : StartsAs armed did.made did.result did.became landed stop
  pub lands : LandsBy did.became old did.site did.made landed
