-- What an audit prints of its lines, and the status that it ends with.
use Rattle.std.specs.Prelude.{ℕ, List, [], ◌∷◌, ◌++◌, ◌+◌, ◌≡◌, ◌⊎◌, codes, cond, decimal, length, nat_lt, Result, Ok, Err}
use Rattle.at_base.specs.IdText.{id_text}
use Rattle.at_base.specs.Numbers.{Numbers}
use Rattle.at_base.specs.declared.record.Record.{Record}
use Rattle.decision_log.specs.Folds.{AreRecords, IsBadAt, placed_in}
use Rattle.journal_at.specs.Format.{records_of}
use Rattle.journal_at.specs.Frames.{ArePlaced}
use Rattle.journal_at.specs.Loads.{IsJudged}
use Rattle.journal_at.specs.Pairs.{FilesOf, HasLive, IsForeign}
use Rattle.journal_at.specs.Scans.{records_in}
use Rattle.journal_at.specs.declared.records.Records.{Records}
use Rattle.journal_at.specs.declared.version.Version.{Version}
use Rattle.schedules.specs.Causes.{number_of_cause}
use Rattle.schedules.specs.declared.line.BadLine.{BadLine}
use Rattle.site_model.specs.Told.{Files}
use Rattle.audit_cmd.specs.JournalLines.{JournalLine, journals_of}
use Rattle.audit_at.specs.Superiors.{Log}
use Rattle.audit_at.specs.Verdicts.{verdict_of}
use Rattle.audit_cmd.specs.declared.journals.JournalFault.{JournalFault}
use Rattle.audit_cmd.specs.declared.journals.JournalFault.TheVariants as faults
use Rattle.audit_at.specs.declared.verdict.Verdict.{Verdict}
use Rattle.audit_at.specs.declared.verdict.Verdict.TheVariants as verdicts

-- the files stand for these bodies, and each is the record in its place
pub record Stands (files : Files) (records : Records) : Type 0 where
  pub is : FilesOf files records.version (records_in records)
  pub all : List Record
  pub are : AreRecords records.version all (records_in records)

-- A body of the live file is no record of its version, the first such; at its gate.
pub record IsNoRecord (file place : ℕ) (files : Files) : Type 0 where
  pub found : Records
  pub is : FilesOf files found.version (records_in found)
  pub bodies : List (List ℕ)
  pub held : HasLive file bodies files
  pub same : records_of bodies ≡ records_in found
  pub placed : ArePlaced 0 found.items.items
  pub bad : IsBadAt found.version (placed_in found) place

-- the first of two files, one of them longer than a new journal's, that is
abbrev pub longer_file : List ℕ → ℕ
longer_file first = cond (nat_lt 11 (length first)) 0 1

-- The live file has no body, and a file is longer than a new journal's; at the begin of the first such.
pub record IsNoJournal (file place : ℕ) (files : Files) : Type 0 where
  pub is : IsForeign files
  pub longer : file ≡ longer_file files.first
  pub begin : place ≡ 0

-- The files stand for no list of bodies, file 0 judged first; or for one with a body that is no record; or they hold nothing of a journal.
abbrev pub IsBadJournal : ℕ → ℕ → Files → Type 0
IsBadJournal file place files = IsJudged file place files ⊎ (IsNoRecord file place files ⊎ IsNoJournal file place files)

abbrev pub JournalOf : Result Records JournalFault → Files → Type 0
JournalOf (Ok records) files = Stands files records
JournalOf (Err faults.NoMemory) files = Unit {0}
JournalOf (Err (faults.Bad file place)) files = IsBadJournal file place files

-- a line's files stand for the records of the node at its base
pub record StandsFor (line : JournalLine) (log : Log) : Type 0 where
  pub base : log.base ≡ line.base
  pub version : Version
  pub bodies : List (List ℕ)
  pub files : FilesOf line.files version bodies
  pub are : AreRecords version log.records bodies

abbrev pub AreStanding : List JournalLine → List Log → Type 0
AreStanding [] [] = Unit {0}
AreStanding [] (log ∷ logs) = ⊥
AreStanding (line ∷ lines) [] = ⊥
AreStanding (line ∷ lines) (log ∷ logs) = StandsFor line log × AreStanding lines logs

-- what is printed, and the status
pub record Audited : Type 0 where
  pub text : List ℕ
  pub status : ℕ

abbrev pub bad_line : BadLine → List ℕ
bad_line bad = codes "line " ++ (decimal bad.line ++ (codes " cause " ++ (decimal (number_of_cause bad.cause) ++ codes "\n")))

-- of the line of this number
abbrev pub bad_journal : ℕ → ℕ → ℕ → List ℕ
bad_journal number file place =
    codes "bad journal " ++ (decimal number ++ (codes " file " ++ (decimal file ++ (codes " at " ++ (decimal place ++ codes "\n")))))

abbrev pub named_item : List ℕ → List ℕ → Numbers → List ℕ
named_item word base id = word ++ (base ++ (codes " " ++ (id_text id ++ codes "\n")))

abbrev pub verdict_printed : Verdict → Audited
verdict_printed (verdicts.Agreed committed aborted) = record {
  text = codes "agreed committed " ++ (decimal committed ++ (codes " aborted " ++ (decimal aborted ++ codes "\n")));
  status = 0;
}
verdict_printed (verdicts.Split base id) = record { text = named_item (codes "split ") base id; status = 13 }
verdict_printed (verdicts.Cycle base id) = record { text = named_item (codes "cycle ") base id; status = 14 }

-- all stand for records, of which this is said
pub record IsVerdictOf (lines : List JournalLine) (audited : Audited) : Type 0 where
  pub logs : List Log
  pub stand : AreStanding lines logs
  pub is : audited ≡ verdict_printed (verdict_of logs)

-- the first that stands for none
pub record IsBadJournalOf (lines : List JournalLine) (audited : Audited) : Type 0 where
  pub front : List JournalLine
  pub line : JournalLine
  pub rest : List JournalLine
  pub is : lines ≡ front ++ line ∷ rest
  pub logs : List Log
  pub stand : AreStanding front logs
  pub file : ℕ
  pub place : ℕ
  pub bad : IsBadJournal file place line.files
  pub printed : audited ≡ record { text = bad_journal (length front + 1) file place; status = 7 }

abbrev pub Audits : Result (List JournalLine) BadLine → Audited → Type 0
Audits (Ok lines) audited = IsVerdictOf lines audited ⊎ IsBadJournalOf lines audited
Audits (Err bad) audited = audited ≡ record { text = bad_line bad; status = 3 }

-- what an audit of this text prints
abbrev pub IsAuditOf : List ℕ → Audited → Type 0
IsAuditOf text audited = Audits (journals_of text) audited
