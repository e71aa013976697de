-- What becomes of the calls of a machine in memory that was told which of them is to fail.
use Rattle.std.specs.Prelude.{ℕ, List, false, not, [], ◌∷◌, Some, ◌≡◌, ◌≤◌, suc, nat_eq, length, drop}
use Rattle.site_model.specs.Site.{Arming as Told}
use Rattle.site_model.specs.Told.{Made}
use Rattle.site_memory.specs.declared.arm.Arming.{Arming}
use Rattle.site_memory.specs.declared.machine.MemSite.{MemSite}
use Rattle.site_memory.specs.Devices.{calls_in}
use Rattle.site_memory.specs.Sites.{told_of}

-- Behind so many calls, these were done but for the one of that number among all, which failed.
abbrev pub AreArmed : (before fails : ℕ) → List Made → Type 0
AreArmed before fails [] = Unit {0}
AreArmed before fails (m ∷ ms) = (m.done ≡ not (nat_eq (suc before) fails)) × AreArmed (suc before) fails ms

-- The calls of every machine that was told something fail as it was told.
abbrev pub CallsFailAsTold : Type 0
CallsFailAsTold = (s : MemSite) (a : Arming) → s.device.arming ≡ Some a → (a.since ≤ length (calls_in s.device)) × AreArmed a.since a.fails (drop a.since (calls_in s.device))

-- A machine that tells what it was told to fail was never told that a link may fail: none has failed, and its calls fail as it tells.
abbrev pub LinksHold : Type 0
LinksHold = (s : MemSite) (a : Told) → (told_of s).counts.arming ≡ Some a
    → (s.links.may_fail ≡ false) × (s.links.accept ≡ 0) × (s.links.receive ≡ 0) × (s.device.arming ≡ Some (record { since = a.since; fails = a.fails }))
