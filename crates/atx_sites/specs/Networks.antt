-- What is known of a machine with files and a network.
use Rattle.std.specs.Prelude.{ℕ, List, None, Result, Ok, Err, ◌≡◌, ◌+◌}
use Rattle.site_model.specs.Attachments.{Names}
use Rattle.site_model.specs.Counts.{capped}
use Rattle.site_model.specs.Site.{Counts}
use Rattle.site_model.specs.Told.{Told, silent}
use Rattle.site_model.specs.declared.site.AttachFailed.{AttachFailed}
use Rattle.site_model.specs.declared.site.AttachFailed.TheVariants as why
use Rattle.system_calls.specs.Calls.{Calls, Number}
use Rattle.atx_sites.specs.FileCalls.{OpensBoth}
use Rattle.atx_sites.specs.Files.{number_of}
use Rattle.atx_sites.specs.LinkCalls.{Listens}
use Rattle.atx_sites.specs.declared.disk.Disk.{Disk}

abbrev pub counts_with : {F : Type 0} → Disk F → ℕ → ℕ → ℕ → ℕ → List Names → Counts
counts_with disk accept receive link taken names =
    record { arming = None; disk = disk.disk; gate = disk.gate; accept = accept; receive = receive; link = link; taken = taken; closings = 0; attached = names }

-- what it tells: its counts, and by which names it was attached. It always may be reached again, so nothing is closed
abbrev pub told_with : {F : Type 0} → Disk F → ℕ → ℕ → ℕ → ℕ → List Names → Told
told_with disk accept receive link taken names =
    silent (counts_with disk accept receive link taken names)

-- the one of both that failed is counted once, and nothing else
abbrev pub Attempted : {T : Type 0} → (disk accept disk_now accept_now : ℕ) → Result T AttachFailed → Type 0
Attempted disk accept disk_now accept_now (Ok x) = (disk_now ≡ disk) × (accept_now ≡ accept)
Attempted disk accept disk_now accept_now (Err why.Disk) = (disk_now ≡ capped (disk + 1)) × (accept_now ≡ accept)
Attempted disk accept disk_now accept_now (Err why.Link) = (disk_now ≡ disk) × (accept_now ≡ capped (accept + 1))

-- the files of that name are held, and then it listens at that address
abbrev pub IfAttached : {F E : Type 0} → (F → Number) → (journal listen : List ℕ) → Result (Unit {0}) E → Disk F → Number → Calls → Calls → Type 0
IfAttached number journal listen (Ok done) disk listener old new =
    (mid : Calls) × OpensBoth journal (number_of number disk.first) (number_of number disk.second) old mid × Listens listen listener mid new
IfAttached number journal listen (Err fault) disk listener old new = Unit {0}
