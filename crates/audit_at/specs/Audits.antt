-- The audit of journals that were read.
use Rattle.std.specs.Prelude.{ℕ, List, [], ◌∷◌, ◌≡◌}
use Rattle.journal_at.specs.declared.records.Records.{Records}
use Rattle.journal_at.specs.Scans.{records_in}
use Rattle.decision_log.specs.Folds.{AreRecords}
use Rattle.audit_at.specs.Superiors.{Log}

-- the base of a node and its journal's records, as bodies and as what they are
abbrev pub IsLogOf : List ℕ × Records → Log → Type 0
IsLogOf journal log = (log.base ≡ journal.0) × AreRecords journal.1.version log.records (records_in journal.1)

abbrev pub AreLogsOf : List (List ℕ × Records) → List Log → Type 0
AreLogsOf [] [] = Unit {0}
AreLogsOf [] (log ∷ logs) = ⊥
AreLogsOf (journal ∷ journals) [] = ⊥
AreLogsOf (journal ∷ journals) (log ∷ logs) = IsLogOf journal log × AreLogsOf journals logs
