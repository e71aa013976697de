-- The calls that a machine in memory keeps.
use Rattle.std.specs.Prelude.{List, Bool, true, [], ◌∷◌, ◌++◌, ◌⊎◌, ◌≡◌, map}
use Rattle.site_model.specs.Told.{Call, Made, done, failed}
use Rattle.site_model.specs.Told.Call.{Write, Sync, Send, Post}
use Rattle.site_memory.specs.declared.arm.Arm.{Arm}
use Rattle.site_memory.specs.declared.arm.Fate.TheVariants as fate
use Rattle.site_memory.specs.declared.entry.Deed.{Deed}
use Rattle.site_memory.specs.declared.entry.Deed.TheVariants as deed
use Rattle.site_memory.specs.declared.entry.Entry.{Entry}
use Rattle.site_memory.specs.declared.entry.Noted.{Noted}
use Rattle.site_memory.specs.declared.entry.Noted.TheVariants as noted
use Rattle.site_memory.specs.Arms.{fate_of, next_of}

abbrev pub call_of : Deed → Call
call_of (deed.Write file at bytes) = Write file at bytes.items
call_of (deed.Sync file) = Sync file
call_of (deed.Send bytes) = Send bytes.items
call_of (deed.Post host port bytes) = Post host.items port bytes.items

abbrev pub made_of : Entry → Made
made_of entry = record { call = call_of entry.deed; done = entry.done }

abbrev pub mades : List Entry → List Made
mades entries = map made_of entries

-- what becomes of a call: done or failed as it is armed; or it isn't tried, where the machine has stopped or wants memory
abbrev pub Notes : Call → Noted → Arm → Arm → Bool → Bool → List Made → List Made → Type 0
Notes call noted.Done arm arm' wanted wanted' old new =
    (fate_of arm ≡ fate.Done) × (arm' ≡ next_of arm) × (wanted' ≡ wanted) × (new ≡ old ++ done call ∷ [])
Notes call noted.Failed arm arm' wanted wanted' old new =
    (fate_of arm ≡ fate.Failed) × (arm' ≡ next_of arm) × (wanted' ≡ wanted) × (new ≡ old ++ failed call ∷ [])
Notes call noted.Not arm arm' wanted wanted' old new =
    (arm' ≡ arm) × (new ≡ old) × (((fate_of arm ≡ fate.Refused) × (wanted' ≡ wanted)) ⊎ (wanted' ≡ true))
