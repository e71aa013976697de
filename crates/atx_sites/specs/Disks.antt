-- What is known of a journal's two files, and of a machine with them and no network.
use Rattle.std.specs.Prelude.{ℕ, List, Option, Result, None, Ok, Err, zero, suc, ◌≡◌, ◌+◌}
use Rattle.site_model.specs.Attachments.{Names}
use Rattle.site_model.specs.Counts.{capped}
use Rattle.site_model.specs.Told.{Told, silent}
use Rattle.system_calls.specs.Calls.{Calls, Number}
use Rattle.atx_sites.specs.FileCalls.{OpensBoth}
use Rattle.atx_sites.specs.Files.{number_of}
use Rattle.atx_sites.specs.declared.disk.Disk.{Disk}
use Rattle.atx_sites.specs.declared.open_file.Held.{Held}

abbrev pub file_at : {F : Type 0} → ℕ → Disk F → Option (Held F)
file_at zero disk = disk.first
file_at (suc n) disk = disk.second

abbrev pub other_at : {F : Type 0} → ℕ → Disk F → Option (Held F)
other_at zero disk = disk.second
other_at (suc n) disk = disk.first

-- a failure is counted, and nothing else
abbrev pub Tallied : {T E : Type 0} → ℕ → ℕ → Result T E → Type 0
Tallied before now (Ok x) = now ≡ before
Tallied before now (Err e) = now ≡ capped (before + 1)

-- what such a machine tells: its counts, and by which names it was attached
abbrev pub told_of : {F : Type 0} → Disk F → ℕ → ℕ → ℕ → List Names → Told
told_of disk accept receive link names =
    silent (record { arming = None; disk = disk.disk; gate = disk.gate; accept = accept; receive = receive; link = link; taken = 0; closings = 0; attached = names })

-- both files of that name are held, and were opened alone
abbrev pub IfHeld : {F E : Type 0} → (F → Number) → List ℕ → Result (Unit {0}) E → Disk F → Calls → Calls → Type 0
IfHeld number journal (Ok done) disk old new = OpensBoth journal (number_of number disk.first) (number_of number disk.second) old new
IfHeld number journal (Err fault) disk old new = Unit {0}
