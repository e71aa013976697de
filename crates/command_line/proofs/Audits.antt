-- Words that ask for an audit, for which there was no memory.
use Rattle.std.proofs.Common.{◌≡◌, ℕ, List, [], Option, Bool, true, false, IsTrue, nat_eq, ◌||◌, arith, refl, subst, sym}
use Rattle.std.proofs.lemmas.Bool.{eqb-true}
use Rattle.std.specs.List.{list_any}
use Rattle.std.specs.Io.KnownBytes.{Appends}
use Rattle.clap.specs.Faults.{fault_of}
use Rattle.clap.specs.Walk.{Text}
use Rattle.command_line.specs.Audits.{HasAudited}
use Rattle.command_line.specs.Commands.{whole}
use Rattle.command_line.specs.Jobs.{IsAudit}
use Rattle.command_line.specs.Jobs.Job.{Audit}
use Rattle.command_line.specs.Views.{Leaves, Tells, statuses_of}
use Rattle.command_line.specs.declared.job.NoJob.{NoJob}
use Rattle.command_line.specs.declared.job.NoJob.TheVariants as none
use Rattle.command_line.proofs.Words.{asks_nothing}

never : {A : Type 0} → IsTrue false → A
never h = absurd cc

without_memory : (left : Option (List ℕ)) (given given' : ℕ) (x y : Option (List ℕ)) → Appends x y [] → HasAudited left given given' x y 9
without_memory left given given' x y quiet = record {
  statuses = refl;
  whole = λ h. never h;
  quiet = λ h. quiet;
  ended = λ h. never h;
  cut = λ e. absurd (omega (arith, e));
}

pub unaudited : (words : List Text) (reason : NoJob) (left : Option (List ℕ)) (given given' : ℕ) (x y : Option (List ℕ)) (status : ℕ) → Tells words reason → IsAudit words
    → IsTrue (list_any (nat_eq status) (statuses_of reason)) → Leaves reason (Appends x y []) → HasAudited left given given' x y status
unaudited words none.NoMemory left given given' x y status h j is quiet = by (nat_eq status 9) refl is
  where
    by : (b : Bool) → nat_eq status 9 ≡ b → IsTrue (b || false) → HasAudited left given given' x y status
    by true e f = subst (HasAudited left given given' x y) (sym (eqb-true status 9 e)) (without_memory left given given' x y quiet)
    by false e f = absurd cc
unaudited words (none.Question text) left given given' x y status h j is quiet = absurd (asks_nothing (fault_of whole words) j.0 h)
unaudited words (none.Refused text) left given given' x y status h j is quiet = absurd (h.0.0 (Audit, j))
unaudited words none.UnknownState left given given' x y status h j is quiet = absurd (h.0.0 (Audit, j))
unaudited words none.NoDestination left given given' x y status h j is quiet = absurd (h.0.0 (Audit, j))
unaudited words none.NoNumbers left given given' x y status h j is quiet = absurd (h.0.0 (Audit, j))
unaudited words none.NoJournalBase left given given' x y status h j is quiet = absurd (h.0.0 (Audit, j))
unaudited words none.NoServing left given given' x y status h j is quiet = absurd (h.0.0 (Audit, j))
unaudited words none.NoBase left given given' x y status h j is quiet = absurd (h.0.0 (Audit, j))
