-- What a start of a node at one of whose calls a fault comes came to.
use Rattle.std.specs.Prelude.{ℕ, List, Bool, Err, None, Ok, Result, ◌≡◌, nat_lt}
use Rattle.at_base.specs.declared.record.Record.{Record}
use Rattle.at_model.specs.Recovery.{last_incarnation}
use Rattle.journal_at.specs.declared.version.Version.{Version}
use Rattle.memory_net.specs.Calls.{Begins}
use Rattle.memory_net.specs.declared.host.Host.{Host}
use Rattle.node_at.specs.Starts.{StandFor}
use Rattle.node_at.specs.declared.fault.StartFault.{StartFault}
use Rattle.node_at.specs.declared.fault.StartFault.TheVariants.{Disk}
use Rattle.node_at.specs.declared.node.Node.{Node}
use Rattle.site_memory.specs.Devices.{calls_in, opening_in}
use Rattle.site_memory.specs.Tells.{reads}
use Rattle.site_memory.specs.declared.arm.Choice.{Choice}
use Rattle.site_memory.specs.declared.machine.MemSite.{MemSite}
use Rattle.mirrored_nets.specs.Took.{FellBack}

-- the files of a machine stand for records of which this is the last incarnation
pub record HasLast (last : ℕ) (s : MemSite) : Type 0 where
  pub version : Version
  pub records : List Record
  pub stand : StandFor version records (reads (opening_in s.device) (calls_in s.device))
  pub last_is : last ≡ last_incarnation records

-- A start at one of whose calls a fault came: all of them were done, or one of the disk's failed.
abbrev pub MayBeStruck : Result Node StartFault → Type 0
MayBeStruck (Ok n) = Unit {0}
MayBeStruck (Err Disk) = Unit {0}
MayBeStruck (Err other) = ⊥

-- It was done, or failed; the machine went back to behind so many of its calls, or all of them, and crashed there. Its Start landed where the last
-- incarnation in the files rose.
pub record TookStart (base : List ℕ) (old : MemSite) (new : Host) (landed : Bool) : Type 0 where
  pub result : Result Node StartFault
  pub site : MemSite
  pub begins : Begins base result old site
  pub may : MayBeStruck result
  pub kept : ℕ
  pub choice : Choice
  pub down : new.node ≡ None
  pub fell : FellBack old site kept choice new.site
  pub before : ℕ
  pub was : HasLast before old
  pub behind : ℕ
  pub is : HasLast behind new.site
  pub landed_is : landed ≡ nat_lt before behind
