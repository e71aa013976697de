-- Why a start fails on a machine on which a node can begin.
use Rattle.std.specs.Prelude.{ℕ, List, [], ◌≡◌, ◌≤◌, ◌<◌, ◌⊎◌, Some, None, Err}
use Rattle.at_base.specs.declared.record.Record.{Record}
use Rattle.at_model.specs.Recovery.{last_incarnation}
use Rattle.at_model.specs.World.{Node as Known, World, nth}
use Rattle.journal_at.specs.declared.version.Version.TheVariants.{One, Two}
use Rattle.memory_net.specs.Calls.{Begins}
use Rattle.memory_net.specs.Mails.{Mail}
use Rattle.memory_net.specs.declared.host.Host.{Host}
use Rattle.node_at.specs.Starts.{StandFor}
use Rattle.node_at.specs.declared.fault.StartFault.{StartFault}
use Rattle.node_at.specs.declared.fault.StartFault.TheVariants.{Disk, NoMemory}
use Rattle.site_memory.specs.Devices.{calls_in, opening_in}
use Rattle.site_memory.specs.Tells.{reads}
use Rattle.site_memory.specs.declared.machine.MemSite.{MemSite}
use Rattle.site_model.specs.Told.{Files}
use Rattle.mirrored_nets.specs.Mirrors.{Mirrors}
use Rattle.mirrored_nets.specs.Took.{HasRoom}

-- Files stand for these records in version 2; or for none in version 1.
abbrev pub StandSo : List Record → Files → Type 0
StandSo rs f = StandFor Two rs f ⊎ ((rs ≡ []) × StandFor One [] f)

-- A node can begin on a machine: as its files read they stand for records behind which incarnations are left, and both have room.
pub record CanBegin (s : MemSite) : Type 0 where
  pub records : List Record
  pub stand : StandSo records (reads (opening_in s.device) (calls_in s.device))
  pub least : last_incarnation records < 4294967295
  pub room : HasRoom s

-- There was no memory, or the disk failed: there is a journal, it isn't bad or full, and its incarnations aren't spent.
abbrev pub IsWant : StartFault → Type 0
IsWant NoMemory = Unit {0}
IsWant Disk = Unit {0}
IsWant other = ⊥

-- A start fails there for nothing else.
abbrev pub StartsFailForWant : Type 0
StartsFailForWant = (base : List ℕ) (fault : StartFault) (old t : MemSite) → CanBegin old → Begins base (Err fault) old t → IsWant fault

-- A node that is down can begin on its machine, where it has incarnations left and its journal has room.
abbrev pub DownCanBegin : Type 0
DownCanBegin =
    (count : ℕ) (hosts : List Host) (clocks : List ℕ) (mails : List Mail) (w : World) (i : ℕ) (h : Host) (x : Known) → count ≤ 8 → Mirrors count hosts clocks mails w → nth i hosts ≡ Some h → h.node ≡ None
    → nth i w.nodes ≡ Some x → last_incarnation x.journal < 4294967295 → HasRoom h.site → CanBegin h.site
