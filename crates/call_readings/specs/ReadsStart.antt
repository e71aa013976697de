-- What the calls of a start come to, of which one was armed, of a node that has started before: both files are synced, and the Start is appended by
-- the four calls behind that.
use Rattle.std.specs.Prelude.{ℕ, List, ◌-◌, ◌≡◌, Bool, true, false, Err, Ok, Result, length, nat_eq, nat_lt}
use Rattle.node_at.specs.declared.fault.StartFault.{StartFault}
use Rattle.node_at.specs.declared.fault.StartFault.TheVariants.{Disk}
use Rattle.node_at.specs.declared.node.Node.{Node}
use Rattle.site_memory.specs.ToldCalls.{AreArmed}
use Rattle.site_memory.specs.declared.arm.Choice.{Choice}
use Rattle.site_memory.specs.declared.arm.Choice.TheVariants.{Keep}
use Rattle.site_memory.specs.declared.machine.MemSite.{MemSite}
use Rattle.site_model.specs.Told.{Made}
use Rattle.torn_appends.specs.TornAppends.{stands_behind}
use Rattle.mirrored_nets.specs.Fates.{AllDone}
use Rattle.mirrored_nets.specs.LeftStarts.{IsStanding}
use Rattle.mirrored_nets.specs.Took.{FellBack}
use Rattle.mirrored_nets.specs.TookStart.{HasLast}
use Rattle.mirrored_nets.specs.declared.armed.Armed.{Armed}
use Rattle.call_readings.specs.Reads.{FailsLast, IsCutAt, IsFailing, IsUncut, failing_call}
use Rattle.call_readings.specs.declared.became.Became.{Became}
use Rattle.call_readings.specs.declared.became.Became.TheVariants.{Stays, Falls, Halts, FallsAnew, HaltsAnew}

-- a node came up
abbrev pub CameUp : Result Node StartFault → Type 0
CameUp result = (node : Node) × (result ≡ Ok node)

-- The node is up, its Start landed and nothing stopped it; or it stopped at a call, all of which were done; or a call failed and ended it. Its Start
-- landed where the calls that are kept leave it standing.
abbrev pub StartsAs : Armed → List Made → Result Node StartFault → Became → (landed stop : Bool) → Type 0
StartsAs armed made result Stays landed stop = CameUp result × IsUncut armed made × (landed ≡ true) × (stop ≡ false)
StartsAs armed made result (Falls kept choice) landed stop =
    CameUp result × AllDone made × ((k : ℕ) × IsCutAt armed made k kept choice) × (landed ≡ stands_behind (kept - 2) choice) × (stop ≡ true)
StartsAs armed made result Halts landed stop = (result ≡ Err Disk) × IsFailing armed × FailsLast made × (landed ≡ nat_eq (length made) 6) × (stop ≡ true)
StartsAs armed made result (FallsAnew kept choice) landed stop = ⊥
StartsAs armed made result HaltsAnew landed stop = ⊥

-- Behind a crash with so many calls kept the files stand for records, of which the last incarnation rose exactly where the Start landed.
pub record LandsSo (old t : MemSite) (kept : ℕ) (choice : Choice) (landed : Bool) : Type 0 where
  pub stands : (new : MemSite) → FellBack old t kept choice new → IsStanding new
  pub rose : (new : MemSite) (before behind : ℕ) → FellBack old t kept choice new → HasLast before old → HasLast behind new → landed ≡ nat_lt before behind

-- where it went down, on the calls that are kept
abbrev pub LandsBy : Became → (old t : MemSite) → List Made → (landed : Bool) → Type 0
LandsBy (Falls kept choice) old t made landed = LandsSo old t kept choice landed
LandsBy Halts old t made landed = LandsSo old t (length made) Keep landed
LandsBy other old t made landed = Unit {0}

-- The calls of a start are read so.
pub record ReadsStart (armed : Armed) (made : List Made) (result : Result Node StartFault) (old t : MemSite) : Type 0 where
  pub became : Became
  pub landed : Bool
  pub stop : Bool
  pub failed : AreArmed 0 (failing_call armed) made
  pub are : StartsAs armed made result became landed stop
  pub lands : LandsBy became old t made landed
