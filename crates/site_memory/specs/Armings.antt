-- What a machine in memory was told to fail, and what its calls so far have to do with that.
use Rattle.std.specs.Prelude.{ℕ, List, Bool, true, false, not, [], ◌∷◌, Option, Some, None, ◌+◌, ◌&&◌, zero, suc, nat_eq, nat_le, length, drop}
use Rattle.site_model.specs.Told.{Made}
use Rattle.site_model.specs.Site.{Arming as Told}
use Rattle.site_memory.specs.declared.arm.Arm.{Arm}
use Rattle.site_memory.specs.declared.arm.Arm.TheVariants.{Idle, Fail}
use Rattle.site_memory.specs.declared.arm.Arming.{Arming}

abbrev pub is_as : Bool → Bool → Bool
is_as true other = other
is_as false other = not other

-- Behind so many calls, these were done but for the one of that number among all, which failed.
abbrev pub are_armed : (before fails : ℕ) → List Made → Bool
are_armed before fails [] = true
are_armed before fails (m ∷ ms) = is_as m.done (not (nat_eq (suc before) fails)) && are_armed (suc before) fails ms

-- The call that is to fail comes where the arm says, behind so many calls; or none is to come.
abbrev pub is_to_come : Arm → (fails count : ℕ) → Bool
is_to_come Idle fails count = nat_le fails count
is_to_come (Fail zero) fails count = nat_le fails count
is_to_come (Fail (suc k)) fails count = nat_eq fails (count + suc k)
is_to_come other fails count = false

-- The calls of a machine are as it was told, if it was told anything.
abbrev pub is_armed : Option Arming → Arm → List Made → Bool
is_armed None arm made = true
is_armed (Some a) arm made = nat_le a.since (length made) && (are_armed a.since a.fails (drop a.since made) && is_to_come arm a.fails (length made))

-- the k-th call behind so many, by its number among all; none where k is 0
abbrev pub call_number : (since k : ℕ) → ℕ
call_number since zero = 0
call_number since (suc k) = since + suc k

-- What it is told by an arm that is set behind so many calls. One that is to stop, or has stopped, is told nothing.
abbrev pub arming_of : ℕ → Arm → Option Arming
arming_of since Idle = Some (record { since = since; fails = 0 })
arming_of since (Fail k) = Some (record { since = since; fails = call_number since k })
arming_of since other = None

abbrev pub told_arming : Arming → Told
told_arming a = record { since = a.since; fails = a.fails }
