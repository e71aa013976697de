-- How many of the calls that a node made are kept where it stops at one of them.
use Rattle.std.specs.Prelude.{ℕ, List, [], ◌∷◌, ◌-◌, Bool, false, true, if◌then◌else◌, suc, zero}
use Rattle.site_memory.specs.declared.arm.Choice.{Choice}
use Rattle.site_memory.specs.declared.arm.Choice.TheVariants.{Keep, Drop, Fill}
use Rattle.site_model.specs.Told.{Call, Made}

abbrev pub is_write : Call → Bool
is_write (Call.Write file at bytes) = true
is_write (Call.Sync file) = false
is_write (Call.Send bytes) = false
is_write (Call.Post host port bytes) = false

-- whether the call at that place is a write
abbrev pub writes_at : ℕ → List Made → Bool
writes_at place [] = false
writes_at zero (m ∷ ms) = is_write m.call
writes_at (suc place) (m ∷ ms) = writes_at place ms

-- At the k-th of them: at a Keep that was done; at a Drop it left nothing; and at a Fill a write left what was chosen, and any other call nothing.
abbrev pub kept_at : List Made → ℕ → Choice → ℕ
kept_at made k Keep = k
kept_at made k Drop = k - 1
kept_at made k (Fill byte) = if writes_at (k - 1) made then k else k - 1
