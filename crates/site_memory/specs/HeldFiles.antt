-- What a file in memory stands for.
use Rattle.std.specs.Prelude.{ℕ, ◌≤◌, ◌+◌, vec_len, vec_capacity}
use Rattle.site_model.specs.Told.{Files}
use Rattle.site_memory.specs.declared.range.Which.{Which}
use Rattle.site_memory.specs.declared.range.Which.TheVariants.{First, Second}
use Rattle.site_memory.specs.declared.held_file.Held.{Held}
use Rattle.site_memory.specs.Disk.{Disk}

abbrev pub disk_of : Held → Disk
disk_of held = record { stable = held.stable.items; seen = held.seen.items; pending = held.pending.items }

-- the files as they were when the machine was opened
abbrev pub opening_of : Held → Held → Files
opening_of first second = record { first = first.opening.items; second = second.opening.items }

abbrev pub HasRoom : Held → ℕ → Type 0
HasRoom held end = (end ≤ held.reach) × (vec_len held.pending + 1 ≤ vec_capacity held.pending)

abbrev pub HasRoomIn : Which → Held → Held → ℕ → Type 0
HasRoomIn First first second end = HasRoom first end
HasRoomIn Second first second end = HasRoom second end
