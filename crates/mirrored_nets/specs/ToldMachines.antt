-- What a machine was told of which of its next calls is to fail.
use Rattle.std.specs.Prelude.{ℕ, Some, false, ◌≡◌, length}
use Rattle.site_memory.specs.Armings.{call_number}
use Rattle.site_memory.specs.Devices.{calls_in}
use Rattle.site_memory.specs.Sites.{told_of}
use Rattle.site_memory.specs.declared.arm.Arm.TheVariants.{Stopped}
use Rattle.site_memory.specs.declared.machine.MemSite.{MemSite}
use Rattle.site_model.specs.Site.{Arming}
use Rattle.mirrored_nets.specs.declared.armed.Armed.{Armed}
use Rattle.mirrored_nets.specs.declared.armed.Armed.TheVariants as calls

-- The machine was told something of its calls behind those that it made.
abbrev pub IsTold : MemSite → Type 0
IsTold s = (arming : Arming) × ((told_of s).counts.arming ≡ Some arming)

-- It can be told something.
pub record IsReady (s : MemSite) : Type 0 where
  pub goes : s.device.arm ≡ Stopped → ⊥
  pub links : s.links.may_fail ≡ false

-- The call that is to fail of a machine that made so many, by its number among all: none where it is to stop at one.
abbrev pub fails_of : (since : ℕ) → Armed → ℕ
fails_of since calls.No = 0
fails_of since (calls.Fail k) = call_number since k
fails_of since (calls.Stop k choice) = 0

-- the machine was told so
abbrev pub IsToldOf : Armed → MemSite → Type 0
IsToldOf armed s = (told_of s).counts.arming ≡ Some (record { since = length (calls_in s.device); fails = fails_of (length (calls_in s.device)) armed })
