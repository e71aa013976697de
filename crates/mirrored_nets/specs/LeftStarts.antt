-- What a crash behind some of the calls of a start leaves.
use Rattle.std.specs.Prelude.{ℕ, List, [], ◌++◌, ◌-◌, ◌≡◌, ◌≤◌, Bool, true, false, Some, None, Ok, Err, Result, drop, length, map, nat_eq, nat_lt}
use Rattle.at_base.specs.declared.record.Record.{Record}
use Rattle.at_model.specs.Recovery.{last_incarnation}
use Rattle.at_model.specs.World.{Node as Known, World, nth}
use Rattle.journal_at.specs.Loads.{syncs}
use Rattle.journal_at.specs.declared.version.Version.{Version}
use Rattle.journal_at.specs.declared.version.Version.TheVariants.{Two}
use Rattle.memory_net.specs.Calls.{Begins}
use Rattle.memory_net.specs.Mails.{Mail}
use Rattle.memory_net.specs.declared.host.Host.{Host}
use Rattle.node_at.specs.Starts.{StandFor, append_calls}
use Rattle.node_at.specs.declared.fault.StartFault.{StartFault}
use Rattle.node_at.specs.declared.fault.StartFault.TheVariants.{Disk}
use Rattle.node_at.specs.declared.node.Node.{Node}
use Rattle.site_memory.specs.Devices.{calls_in, opening_in}
use Rattle.site_memory.specs.Sites.{told_of}
use Rattle.site_memory.specs.Tells.{reads}
use Rattle.site_memory.specs.declared.arm.Choice.{Choice}
use Rattle.site_memory.specs.declared.arm.Choice.TheVariants.{Keep}
use Rattle.site_memory.specs.declared.machine.MemSite.{MemSite}
use Rattle.site_model.specs.Told.{Files, Made, done}
use Rattle.torn_appends.specs.TornAppends.{stands_behind}
use Rattle.mirrored_nets.specs.Mirrors.{Mirrors}
use Rattle.mirrored_nets.specs.ToldMachines.{IsToldOf}
use Rattle.mirrored_nets.specs.Took.{Adds, FellBack}
use Rattle.mirrored_nets.specs.TookStart.{HasLast}
use Rattle.mirrored_nets.specs.declared.armed.Armed.{Armed}
use Rattle.mirrored_nets.specs.declared.armed.Armed.TheVariants as calls

-- The files of a machine stand for records, as they read.
pub record IsStanding (s : MemSite) : Type 0 where
  pub version : Version
  pub records : List Record
  pub stand : StandFor version records (reads (opening_in s.device) (calls_in s.device))

-- Whatever a crash leaves of the files, they stand for records of version 2 of which this is the last incarnation.
pub record IsMarked (last : ℕ) (s : MemSite) : Type 0 where
  pub stands : (c : Files) → (told_of s).images c → (rs : List Record) × StandFor Two rs c × (last ≡ last_incarnation rs)

-- So is the machine of a node that is down and has started before.
abbrev pub DownAreMarked : Type 0
DownAreMarked =
    (count : ℕ) (hosts : List Host) (clocks : List ℕ) (mails : List Mail) (w : World) (i : ℕ) (h : Host) (x : Known) → count ≤ 8 → Mirrors count hosts clocks mails w → nth i hosts ≡ Some h → h.node ≡ None
    → nth i w.nodes ≡ Some x → (x.journal ≡ [] → ⊥) → (last : ℕ) × IsMarked last h.site

-- A start on such a machine, of which all calls were done: both files are synced, and the Start is appended. Behind a crash that comes behind some of
-- the calls the last incarnation rose exactly where the append's calls among them leave the record standing.
pub record LeavesStart (old t : MemSite) : Type 0 where
  pub file : ℕ
  pub end : ℕ
  pub body : List ℕ
  pub calls : drop (length (calls_in old.device)) (calls_in t.device) ≡ map done (syncs ++ append_calls file end body)
  pub stands : (kept : ℕ) (choice : Choice) (new : MemSite) → FellBack old t kept choice new → IsStanding new
  pub rose : (kept : ℕ) (choice : Choice) (new : MemSite) (before behind : ℕ) → FellBack old t kept choice new → HasLast before old → HasLast behind new → nat_lt before behind ≡ stands_behind (kept - 2) choice

abbrev pub StartsLeave : Type 0
StartsLeave = (base : List ℕ) (n : Node) (old t : MemSite) (last : ℕ) → IsMarked last old → Begins base (Ok n) old t → LeavesStart old t

-- A start fails only by the disk, where a call is to fail; for anything else there was no memory.
abbrev pub may_fail : StartFault → Armed → Bool
may_fail Disk (calls.Fail k) = true
may_fail fault armed = false

-- all its calls were done, or it failed so
abbrev pub IsBegun : Armed → Result Node StartFault → Type 0
IsBegun armed (Ok node) = Unit {0}
IsBegun armed (Err fault) = may_fail fault armed ≡ true

-- A node that comes up syncs both its files, and then appends its Start by four calls.
abbrev pub start_calls : ℕ
start_calls = 6

-- Whether a record stands of whose four calls that one failed: what fails to be synced still reads as it was written.
abbrev pub stands_failed : ℕ → Bool
stands_failed n = nat_eq n 4

-- A start on such a machine whose k-th call was to fail, and beside which no other failed. Behind a crash that leaves the files as they read the last
-- incarnation rose exactly where that call of the append leaves the record standing.
pub record LeavesFailed (k : ℕ) (made : List Made) (old t : MemSite) : Type 0 where
  pub stands : (new : MemSite) → FellBack old t (length made) Keep new → IsStanding new
  pub rose : (new : MemSite) (before behind : ℕ) → FellBack old t (length made) Keep new → HasLast before old → HasLast behind new → nat_lt before behind ≡ stands_failed (k - 2)

abbrev pub FailedStartsLeave : Type 0
FailedStartsLeave =
    (base : List ℕ) (result : Result Node StartFault) (old t : MemSite) (last k : ℕ) (made : List Made) → IsMarked last old → IsToldOf (calls.Fail k) old → 1 ≤ k → k ≤ start_calls
    → Begins base result old t → IsBegun (calls.Fail k) result → Adds made old t → LeavesFailed k made old t
