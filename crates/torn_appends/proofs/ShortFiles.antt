-- Files that stay as short as a new journal's.
use Rattle.std.specs.Prelude.{ℕ, List, Bool, true, false, ◌+◌, ◌≤◌, length, replicate}
use Rattle.std.proofs.Common.{sym, subst, arith}
use Rattle.std.proofs.lemmas.List.{length-replicate}
use Rattle.site_memory.specs.Disk.{Disk, after_sync, after_write, chosen}
use Rattle.site_memory.specs.declared.arm.Choice.{Choice}
use Rattle.site_memory.specs.declared.arm.Choice.TheVariants.{Drop, Fill, Keep}
use Rattle.journal_at.proofs.NewJournals.{written_short}
use Rattle.torn_appends.proofs.DiskRuns.{filled_on}

-- whatever a crash leaves
abbrev pub AreShort : Disk → Type 0
AreShort d = (choice : Choice) → length (chosen choice d) ≤ 11

pub short_write : (at : ℕ) (bytes : List ℕ) (done : Bool) (d : Disk) → at + length bytes ≤ 11 → AreShort d → AreShort (after_write at bytes done d)
short_write at bytes true d l h Keep = written_short at bytes d.seen l (h Keep)
short_write at bytes false d l h Keep = h Keep
short_write at bytes done d l h Drop = h Drop
short_write at bytes done d l h (Fill b) =
    let n = length-replicate (length bytes) b in
    subst (λ z. length z ≤ 11) (sym (filled_on b d.stable d.pending (record { at = at; len = length bytes })))
    (written_short at (replicate (length bytes) b) _ (omega (arith, l, n)) (h (Fill b)))

pub short_sync : (done : Bool) (d : Disk) → AreShort d → AreShort (after_sync done d)
short_sync true d h Keep = h Keep
short_sync true d h Drop = h Keep
short_sync true d h (Fill b) = h Keep
short_sync false d h choice = h choice
