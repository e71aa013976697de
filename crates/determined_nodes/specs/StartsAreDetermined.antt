-- Starts of nodes on machines that are alike.
use Rattle.std.specs.Prelude.{ℕ, List, [], ◌+◌, Err, Ok, Result, Some, ◌≡◌, ◌≤◌, ◌<◌, ◌⊎◌, length}
use Rattle.at_base.specs.declared.record.Record.{Record}
use Rattle.at_model.specs.Recovery.{last_incarnation}
use Rattle.journal_at.specs.Format.{FileOf}
use Rattle.journal_at.specs.Pairs.{AreNew}
use Rattle.journal_at.specs.declared.version.Version.{Version}
use Rattle.journal_at.specs.declared.version.Version.TheVariants.{Two}
use Rattle.memory_net.specs.Calls.{Begins}
use Rattle.mirrored_nets.specs.Took.{Adds, HasRoom}
use Rattle.node_at.specs.Starts.{StandFor}
use Rattle.node_at.specs.State.{seen}
use Rattle.node_at.specs.declared.fault.StartFault.{StartFault}
use Rattle.node_at.specs.declared.fault.StartFault.TheVariants.{Disk, NoMemory}
use Rattle.node_at.specs.declared.node.Node.{Node}
use Rattle.site_memory.specs.Devices.{calls_in, opening_in}
use Rattle.site_memory.specs.Sites.{told_of}
use Rattle.site_memory.specs.Tells.{reads}
use Rattle.site_memory.specs.declared.machine.MemSite.{MemSite}
use Rattle.site_model.specs.Told.{Files, Made}
use Rattle.determined_nodes.specs.AlikeCalls.{MachinesAlike}
use Rattle.determined_nodes.specs.SameNodes.{IsSameBehind, IsSameMachine}

-- neither file has a body, and both are those of a new journal
abbrev pub HasNoBody : Files → Type 0
HasNoBody f = FileOf f.first [] × FileOf f.second [] × AreNew f

-- Behind so many calls: files of version 2; or the files of a new journal, without bodies, of which the first has at most one byte, or none of the two calls is to fail by
-- which a first gate would be written.
abbrev pub StartsFrom : (since fails : ℕ) → Files → Type 0
StartsFrom since fails f =
    ((rs : List Record) × StandFor Two rs f)
    ⊎ (HasNoBody f × ((length f.first ≤ 1) ⊎ ((fails ≡ since + 3 → ⊥) × (fails ≡ since + 4 → ⊥))))

-- it was done, or the disk failed
abbrev pub IsTried : Result Node StartFault → Type 0
IsTried (Ok node) = Unit {0}
IsTried (Err Disk) = Unit {0}
IsTried (Err other) = ⊥

-- behind the records that they stand for, incarnations are left
abbrev pub HasLeft : Files → Type 0
HasLeft f = (version : Version) (rs : List Record) → StandFor version rs f → last_incarnation rs < 4294967295

-- A start on a machine of such files that has room, and the calls that it made: it was done, or the disk failed; or there was memory, where incarnations
-- are left. The machine was told which of its calls is to fail, by its number among all, or none.
pub record HasBegun (base : List ℕ) (fails : ℕ) (result : Result Node StartFault) (old new : MemSite) (made : List Made) : Type 0 where
  pub from : StartsFrom (length (calls_in old.device)) fails (reads (opening_in old.device) (calls_in old.device))
  pub room : HasRoom old
  pub told : (told_of old).counts.arming ≡ Some (record { since = length (calls_in old.device); fails = fails })
  pub begins : Begins base result old new
  pub adds : Adds made old new
  pub ends : IsTried result ⊎ (HasLeft (reads (opening_in old.device) (calls_in old.device)) × (result ≡ Err NoMemory → ⊥))

-- nodes that are alike, or the same fault
abbrev pub StartAlike : Result Node StartFault → Result Node StartFault → Type 0
StartAlike (Ok n) (Ok m) = IsSameBehind (seen n) (seen m)
StartAlike (Ok n) (Err e) = ⊥
StartAlike (Err e) (Ok m) = ⊥
StartAlike (Err e) (Err f) = e ≡ f

-- Two such starts, on machines that are alike, at which the same call is to fail, do the same.
abbrev pub StartsAreDetermined : Type 0
StartsAreDetermined =
    (base : List ℕ) (fails : ℕ) (r s : Result Node StartFault) (old new here there : MemSite) (made also : List Made) → IsSameMachine old here → HasBegun base fails r old new made → HasBegun base fails s here there also
    → StartAlike r s × MachinesAlike new there made also
