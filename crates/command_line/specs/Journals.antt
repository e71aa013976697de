-- What `journal` does: it reads a journal's files, and prints what they stand for, or their line for an audit.
use Rattle.std.specs.Prelude.{ℕ, List, [], ◌∷◌, ◌⊎◌, Option, Some, IsTrue, nat_eq, ◌≡◌}
use Rattle.std.specs.Io.KnownBytes.{Appends}
use Rattle.std.specs.List.{list_any}
use Rattle.site_model.specs.Counts.{Rose}
use Rattle.journal_cmd.specs.Folders.{Held}
use Rattle.journal_cmd.specs.Pairs.{IsMissing}
use Rattle.journal_cmd.specs.Shown.{IsLineOf, IsLineOfInPart, IsShown, IsShownInPart}

-- of files that tell what they hold, with these counts of failures, and a sink with these contents
pub record HasShown (told : Option Held) (faults faults' : ℕ) (file : List ℕ) (old new : Option (List ℕ)) (status : ℕ) : Type 0 where
  pub statuses : IsTrue (list_any (nat_eq status) (0 ∷ 5 ∷ 6 ∷ 7 ∷ 9 ∷ []))
  pub unread : status ≡ 6 → IsMissing told file ⊎ Rose faults faults'
  pub quiet : IsTrue (list_any (nat_eq status) (6 ∷ 9 ∷ [])) → Appends old new []
  pub printed : (held : Held) → told ≡ Some held → IsTrue (list_any (nat_eq status) (0 ∷ 7 ∷ [])) → IsShown held file old new status
  pub part : (held : Held) → told ≡ Some held → status ≡ 5 → IsShownInPart held file old new

pub record HasShownLine (told : Option Held) (faults faults' : ℕ) (base file : List ℕ) (old new : Option (List ℕ)) (status : ℕ) : Type 0 where
  pub statuses : IsTrue (list_any (nat_eq status) (0 ∷ 5 ∷ 6 ∷ 9 ∷ []))
  pub unread : status ≡ 6 → IsMissing told file ⊎ Rose faults faults'
  pub quiet : IsTrue (list_any (nat_eq status) (6 ∷ 9 ∷ [])) → Appends old new []
  pub printed : (held : Held) → told ≡ Some held → status ≡ 0 → IsLineOf base held file old new
  pub part : (held : Held) → told ≡ Some held → status ≡ 5 → IsLineOfInPart base held file old new
