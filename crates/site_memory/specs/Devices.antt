-- What calls and crashes do to the disk of a machine in memory.
use Rattle.std.specs.Prelude.{ℕ, List, [], ◌≡◌, true, take}
use Rattle.site_model.specs.Told.{Call, Made, Files}
use Rattle.site_memory.specs.declared.arm.Arm.TheVariants.{Idle}
use Rattle.site_memory.specs.declared.arm.Choice.{Choice}
use Rattle.site_memory.specs.declared.device.Device.{Device}
use Rattle.site_memory.specs.declared.entry.Noted.{Noted}
use Rattle.site_memory.specs.declared.range.Which.TheVariants.{First, Second}
use Rattle.site_memory.specs.Disk.{chosen, disk}
use Rattle.site_memory.specs.Entries.{mades, Notes}
use Rattle.site_memory.specs.HeldFiles.{opening_of}

abbrev pub opening_in : Device → Files
opening_in device = opening_of device.first device.second

abbrev pub calls_in : Device → List Made
calls_in device = mades device.log.items

pub record Runs (call : Call) (noted : Noted) (old new : Device) : Type 0 where
  pub notes : Notes call noted old.arm new.arm old.wanted new.wanted (calls_in old) (calls_in new)
  pub opening : opening_in new ≡ opening_in old
  pub arming : new.arming ≡ old.arming

-- the machine is opened anew, on what a crash left
pub record Leaves (choice : Choice) (old new : Device) : Type 0 where
  pub calls : calls_in new ≡ []
  pub first : (opening_in new).first ≡ chosen choice (disk First (opening_in old) (calls_in old))
  pub second : (opening_in new).second ≡ chosen choice (disk Second (opening_in old) (calls_in old))
  pub arm : new.arm ≡ Idle
  pub wanted : new.wanted ≡ old.wanted

-- the machine as it was behind its first so many calls, unarmed
pub record GoesBack (calls : ℕ) (old new : Device) : Type 0 where
  pub calls_are : calls_in new ≡ take calls (calls_in old)
  pub opening : opening_in new ≡ opening_in old
  pub arm : new.arm ≡ Idle
  pub wanted : new.wanted ≡ old.wanted

-- nothing changes but that memory is known to have been wanted
pub record Wants (old new : Device) : Type 0 where
  pub calls : calls_in new ≡ calls_in old
  pub opening : opening_in new ≡ opening_in old
  pub arm : new.arm ≡ old.arm
  pub arming : new.arming ≡ old.arming
  pub wanted : new.wanted ≡ true
