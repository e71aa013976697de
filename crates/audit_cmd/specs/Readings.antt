-- Lines whose files are read as journals.
use Rattle.std.specs.Prelude.{ℕ, List, [], ◌∷◌, ◌++◌, ◌+◌, ◌≡◌, length}
use Rattle.journal_at.specs.declared.records.Records.{Records}
use Rattle.audit_cmd.specs.JournalLines.{JournalLine}
use Rattle.audit_cmd.specs.JournalReports.{IsBadJournal, Stands}
use Rattle.audit_cmd.specs.declared.journals.JournalFault.{JournalFault}
use Rattle.audit_cmd.specs.declared.journals.JournalFault.TheVariants as faults
use Rattle.audit_cmd.specs.declared.report.Unread.{Unread}
use Rattle.audit_cmd.specs.declared.report.Unread.TheVariants as unread

abbrev pub AreRead : List JournalLine → List (List ℕ × Records) → Type 0
AreRead [] [] = Unit {0}
AreRead [] (journal ∷ journals) = ⊥
AreRead (line ∷ lines) [] = ⊥
AreRead (line ∷ lines) (journal ∷ journals) = (journal.0 ≡ line.base) × Stands line.files journal.1 × AreRead lines journals

-- the first line whose files are no journal, by its number
pub record IsUnread (number file place : ℕ) (lines : List JournalLine) : Type 0 where
  pub front : List JournalLine
  pub line : JournalLine
  pub rest : List JournalLine
  pub is : lines ≡ front ++ line ∷ rest
  pub journals : List (List ℕ × Records)
  pub read : AreRead front journals
  pub numbered : number ≡ length front + 1
  pub bad : IsBadJournal file place line.files

abbrev pub IsWhy : Unread → List JournalLine → Type 0
IsWhy unread.NoMemory lines = Unit {0}
IsWhy (unread.Bad number file place) lines = IsUnread number file place lines

-- why the line of this number wasn't read
abbrev pub unread_at : ℕ → JournalFault → Unread
unread_at number faults.NoMemory = unread.NoMemory
unread_at number (faults.Bad file place) = unread.Bad number file place
