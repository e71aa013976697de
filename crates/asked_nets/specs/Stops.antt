-- Where a machine is to stop.
use Rattle.std.specs.Prelude.{ℕ, List, ◌||◌, None, Option, Some, if◌then◌else◌, length, nat_eq, nat_lt}
use Rattle.site_memory.specs.declared.arm.Choice.{Choice}
use Rattle.site_model.specs.Told.{Made}
use Rattle.mirrored_nets.specs.Kept.{kept_at}
use Rattle.mirrored_nets.specs.declared.armed.Armed.{Armed}
use Rattle.mirrored_nets.specs.declared.armed.Armed.TheVariants as calls

-- how many of these calls are kept, where it comes to the one at which it is to stop, and what a crash there leaves
abbrev pub stop_in : Armed → List Made → Option (ℕ × Choice)
stop_in calls.No made = None
stop_in (calls.Fail k) made = None
stop_in (calls.Stop k choice) made = if nat_eq k 0 || nat_lt (length made) k then None else Some (kept_at made k choice, choice)
