-- The journal behind the parts of a start, as far as no record says it.
use Rattle.std.proofs.Common.{List, ℕ, Result, Ok, Err, false, ◌≡◌, ◌≤◌, sym, ◌∙◌, subst, OnOk}
use Rattle.site_model.specs.Told.{Told}
use Rattle.journal_at.specs.declared.journal.Compact.{Compact}
use Rattle.journal_at.specs.declared.journal.Compact.TheVariants as compacts
use Rattle.journal_at.specs.declared.journal.Journal.{Journal}
use Rattle.journal_at.specs.declared.version.Version.{Version}
use Rattle.journal_at.specs.declared.version.Version.TheVariants.{One, Two}
use Rattle.decision_log.specs.ShrunkJournals.{IsCompacted}
use Rattle.node_at.specs.declared.fault.StartFault.{StartFault}
use Rattle.node_at.specs.Starts.{IsContinued, IsJournalBehind, IsRenewed, compact_ended}

pub renewed : (result : Result (Unit {0}) StartFault) (r : Compact) (texts : List (List ℕ)) (j k : Journal) (old new : Told) → result ≡ compact_ended r → IsCompacted r texts j k old new → j.unsure ≡ false → 1 ≤ j.end
    → OnOk result (IsRenewed j k)
renewed result r texts j k old new e h sure some = subst (λ z. OnOk z (IsRenewed j k)) (sym e) (by_case r h) where
  by_case : (r : Compact) → IsCompacted r texts j k old new → OnOk (compact_ended r) (IsRenewed j k)
  by_case compacts.Done h = let m = h.moves sure in record { live = m.file.0; generation = m.file.1; unshut = m.unshut.1 some }
  by_case compacts.Kept h = tt
  by_case compacts.Unsure h = tt
  by_case compacts.Full h = tt

continues : (version : Version) (before j k : Journal) → IsJournalBehind version before j → k.live ≡ j.live → IsContinued j k → IsJournalBehind version before k
continues Two before j k h live c = record { generation = c.generation ∙ h.generation; unshut = c.unshut ∙ h.unshut }
continues One before j k h live c = (
  λ e. let g = h.0 e in record { generation = c.generation ∙ g.generation; unshut = c.unshut ∙ g.unshut },
  λ e. let g = h.1 e in record { live = live ∙ g.live; generation = c.generation ∙ g.generation; unshut = c.unshut ∙ g.unshut },
)

-- and then the Start is appended
pub goes_on : {T E : Type 0} (r : Result T E) (version : Version) (before j k : Journal) → IsJournalBehind version before j → OnOk r (k.live ≡ j.live) → OnOk r (IsContinued j k) → OnOk r (IsJournalBehind version before k)
goes_on (Ok x) version before j k h live c = continues version before j k h live c
goes_on (Err e) version before j k h live c = tt
