-- A record that is appended.
use Rattle.std.specs.Prelude.{ℕ, List, Option, Some, None, Result, Ok, Err, true, false, ◌≡◌, ◌≤◌, ◌<◌, ◌+◌, ◌↔◌, length}
use Rattle.at_base.specs.declared.record.Record.{Record}
use Rattle.site_model.specs.Told.{Told}
use Rattle.journal_at.specs.declared.journal.Append.{Append}
use Rattle.journal_at.specs.declared.journal.Append.TheVariants as appends
use Rattle.journal_at.specs.declared.journal.Journal.{Journal}
use Rattle.journal_at.specs.declared.version.Version.TheVariants.{Two}
use Rattle.journal_at.specs.StandingBodies.{Appended, Calls, HasReason, IsSame, Keeps}
use Rattle.record_bytes.specs.Versions.{IsRecord}
use Rattle.decision_log.specs.declared.keep.KeepFault.{KeepFault}
use Rattle.decision_log.specs.declared.keep.KeepFault.TheVariants.{NoMemory, Refused, Unsure, Full}

-- how the append ended, where there was memory for it
abbrev pub ending : {T : Type 0} → Result T KeepFault → Option Append
ending (Ok x) = Some appends.Done
ending (Err NoMemory) = None
ending (Err Refused) = Some appends.Refused
ending (Err Unsure) = Some appends.Unsure
ending (Err Full) = Some appends.Full

-- the append of the record's body, to a file that has a body, ended so
pub record IsAppended (a : Append) (r : Record) (body : List ℕ) (before after : Journal) (old new : Told) : Type 0 where
  pub is : IsRecord Two r body
  pub appended : (bodies : List (List ℕ)) → before.unsure ≡ false → Keeps before bodies old → 1 ≤ before.end → Appended a bodies body after old new
  pub calls : before.unsure ≡ false → Calls a before.live before.end body old new
  pub reason : HasReason a before old new
  pub full : (a ≡ appends.Full) ↔ ((before.unsure ≡ false) × (before.limit < before.end + 6 + length body))
  pub unsure : (after.unsure ≡ true) ↔ (a ≡ appends.Unsure)
  pub stuck : before.unsure ≡ true → a ≡ appends.Unsure
  pub same : IsSame before after
