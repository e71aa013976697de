-- What is printed of a journal that was read.
use Rattle.std.specs.Prelude.{List, ◌≡◌, false}
use Rattle.at_base.specs.declared.record.Record.{Record}
use Rattle.decision_log.specs.Folds.{AreRecords}
use Rattle.decision_log.specs.KeptState.{known}
use Rattle.journal_at.specs.Scans.{records_in}
use Rattle.journal_page.specs.Pages.{Printed, lines_of}
use Rattle.journal_page.specs.declared.standing.Standing.{Standing}

pub record IsWholeOf (s : Standing) (p : Printed) : Type 0 where
  pub entries : List Record
  pub are : AreRecords s.records.version entries (records_in s.records)
  pub is : p ≡ record { text = lines_of s.records.version s.generation entries (known s.kept); is_bad = false }
