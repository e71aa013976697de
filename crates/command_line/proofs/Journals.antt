-- A journal that is shown, and words that ask for that, for which there was no memory.
use Rattle.std.proofs.Common.{◌≡◌, ℕ, List, [], ◌∷◌, Option, Some, None, Bool, true, false, IsTrue, nat_eq, ◌||◌, arith, ap, refl, subst, sym}
use Rattle.std.proofs.lemmas.Bool.{eqb-true}
use Rattle.std.proofs.lemmas.List.{append-nil}
use Rattle.std.specs.List.{list_any}
use Rattle.std.specs.Io.KnownBytes.{Appends}
use Rattle.clap.specs.Faults.{fault_of}
use Rattle.clap.specs.Walk.{Text}
use Rattle.journal_cmd.specs.Folders.{Held}
use Rattle.command_line.specs.Commands.{whole}
use Rattle.command_line.specs.Jobs.{IsJobOf, Job}
use Rattle.command_line.specs.Jobs.Job.{Show, ShowLine}
use Rattle.command_line.specs.Journals.{HasShown, HasShownLine}
use Rattle.command_line.specs.Views.{Leaves, Tells, statuses_of}
use Rattle.command_line.specs.declared.job.NoJob.{NoJob}
use Rattle.command_line.specs.declared.job.NoJob.TheVariants as none
use Rattle.command_line.proofs.Words.{asks_nothing}

pub nothing : (x : Option (List ℕ)) → Appends x x []
nothing None = tt
nothing (Some xs) = sym (append-nil xs)

-- words that are a job give none for want of memory alone
pub wanting : (words : List Text) (reason : NoJob) (job : Job) → Tells words reason → IsJobOf words job → reason ≡ none.NoMemory
wanting words none.NoMemory job h j = refl
wanting words (none.Question text) job h j = absurd (asks_nothing (fault_of whole words) j.0 h)
wanting words (none.Refused text) job h j = absurd (h.0.0 (job, j))
wanting words none.UnknownState job h j = absurd (h.0.0 (job, j))
wanting words none.NoDestination job h j = absurd (h.0.0 (job, j))
wanting words none.NoNumbers job h j = absurd (h.0.0 (job, j))
wanting words none.NoJournalBase job h j = absurd (h.0.0 (job, j))
wanting words none.NoServing job h j = absurd (h.0.0 (job, j))
wanting words none.NoBase job h j = absurd (h.0.0 (job, j))

never : {A : Type 0} → IsTrue false → A
never h = absurd cc

nine : (status : ℕ) (b : Bool) → nat_eq status 9 ≡ b → IsTrue (b || false) → status ≡ 9
nine status true e h = eqb-true status 9 e
nine status false e h = absurd cc

-- the status then is 9
pub spent : (words : List Text) (reason : NoJob) (job : Job) (status : ℕ) → Tells words reason → IsJobOf words job → IsTrue (list_any (nat_eq status) (statuses_of reason)) → status ≡ 9
spent words reason job status h j is =
    let is_nine : IsTrue (list_any (nat_eq status) (9 ∷ [])) = subst (λ r. IsTrue (list_any (nat_eq status) (statuses_of r))) (wanting words reason job h j) is in
    nine status (nat_eq status 9) refl is_nine

pub quiet_then : (words : List Text) (reason : NoJob) (job : Job) (P : Type 0) → Tells words reason → IsJobOf words job → Leaves reason P → P
quiet_then words reason job P h j quiet = subst (λ r. Leaves r P) (wanting words reason job h j) quiet

module _ (told : Option Held) (faults faults' : ℕ) (x y : Option (List ℕ)) where
  pub unshown : (words : List Text) (reason : NoJob) (file : List ℕ) (status : ℕ) → Tells words reason → IsJobOf words (Show file)
      → IsTrue (list_any (nat_eq status) (statuses_of reason)) → Leaves reason (Appends x y []) → HasShown told faults faults' file x y status
  unshown words reason file status h j is quiet =
      subst (HasShown told faults faults' file x y) (sym (spent words reason (Show file) status h j is)) (record {
        statuses = refl;
        unread = λ e. absurd (omega (arith, e));
        quiet = λ k. quiet_then words reason (Show file) (Appends x y []) h j quiet;
        printed = λ held e k. never k;
        part = λ held e k. absurd (omega (arith, k));
      })

  pub unlined : (words : List Text) (reason : NoJob) (base file : List ℕ) (status : ℕ) → Tells words reason → IsJobOf words (ShowLine base file)
      → IsTrue (list_any (nat_eq status) (statuses_of reason)) → Leaves reason (Appends x y []) → HasShownLine told faults faults' base file x y status
  unlined words reason base file status h j is quiet =
      subst (HasShownLine told faults faults' base file x y) (sym (spent words reason (ShowLine base file) status h j is)) (record {
        statuses = refl;
        unread = λ e. absurd (omega (arith, e));
        quiet = λ k. quiet_then words reason (ShowLine base file) (Appends x y []) h j quiet;
        printed = λ held e k. absurd (omega (arith, k));
        part = λ held e k. absurd (omega (arith, k));
      })

-- the words name one journal
file_in : List ℕ → Job → List ℕ
file_in d (Show file) = file
file_in d (ShowLine base file) = file
file_in d other = d

base_in : List ℕ → Job → List ℕ
base_in d (ShowLine base file) = base
base_in d other = d

pub shown_as : (told : Option Held) (faults faults' : ℕ) (f file : List ℕ) (x y : Option (List ℕ)) (status : ℕ) → Show f ≡ Show file
    → HasShown told faults faults' f x y status → HasShown told faults faults' file x y status
unfolding file_in
shown_as told faults faults' f file x y status e h = subst (λ z. HasShown told faults faults' z x y status) (ap (file_in f) e) h

pub lined_as : (told : Option Held) (faults faults' : ℕ) (b f base file : List ℕ) (x y : Option (List ℕ)) (status : ℕ) → ShowLine b f ≡ ShowLine base file
    → HasShownLine told faults faults' b f x y status → HasShownLine told faults faults' base file x y status
unfolding file_in base_in
lined_as told faults faults' b f base file x y status e h =
    subst (λ z. HasShownLine told faults faults' base z x y status) (ap (file_in f) e) (subst (λ z. HasShownLine told faults faults' z f x y status) (ap (base_in b) e) h)
