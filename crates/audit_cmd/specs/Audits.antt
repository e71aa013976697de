-- What `audit` prints, and the status that it ends with.
use Rattle.std.specs.Prelude.{ℕ, List, Option, length, take, ◌≡◌, ◌≤◌}
use Rattle.std.specs.Io.KnownBytes.{Appends}
use Rattle.audit_cmd.specs.JournalReports.{Audited, IsAuditOf}

-- the whole of it was printed, and the status is its own
pub record IsAudited (input : List ℕ) (old new : Option (List ℕ)) (status : ℕ) : Type 0 where
  pub audited : Audited
  pub is : IsAuditOf input audited
  pub printed : Appends old new audited.text
  pub ended : status ≡ audited.status

-- a beginning of it was printed
pub record IsAuditedInPart (input : List ℕ) (old new : Option (List ℕ)) : Type 0 where
  pub audited : Audited
  pub is : IsAuditOf input audited
  pub count : ℕ
  pub within : count ≤ length audited.text
  pub printed : Appends old new (take count audited.text)
