-- What a command that serves did, as the clauses of the top call say it.
use Rattle.std.proofs.Common.{◌≡◌, ◌+◌, ◌<◌, arith, ℕ, List, [], ◌∷◌, Bool, true, false, Option, Some, None, Ok, Err, IsTrue, length, take, nat_eq, ◌≤◌, ◌||◌, ◌&&◌, ◌⊎◌, inl, inr, refl, subst, sym, ap, ◌∙◌}
use Rattle.std.proofs.lemmas.Bool.{eqb-true}
use Rattle.std.proofs.lemmas.List.{append-nil}
use Rattle.std.specs.List.{list_any}
use Rattle.std.specs.Io.KnownBytes.{Appends}
use Rattle.envelope_cmd.specs.Output.{Output, refused as refusing}
use Rattle.node_at.specs.declared.role.Role.{Role as Role_served}
use Rattle.schedules.specs.InitiatorLines.{initiator_lines_of}
use Rattle.schedules.specs.Schedules.{IfBad}
use Rattle.schedules.specs.declared.line.ScheduleError.{ScheduleError}
use Rattle.schedules.specs.declared.line.ScheduleError.TheVariants as errors
use Rattle.schedules.specs.declared.initiator_line.InitiatorLine.{InitiatorLine}
use Rattle.schedules.specs.declared.line.BadLine.{BadLine}
use Rattle.serving.specs.Runs.{Serves}
use Rattle.serving.specs.Services.{base_at}
use Rattle.serving.specs.declared.service_end.Ended.{Ended}
use Rattle.serving.specs.declared.service_end.Ended.TheVariants as endings
use Rattle.site_model.specs.Source.{IsWhole}
use Rattle.site_model.specs.Told.{Told}
use Rattle.clap.specs.Faults.{fault_of}
use Rattle.clap.specs.Walk.{Text}
use Rattle.command_line.specs.Commands.{whole}
use Rattle.command_line.specs.Jobs.{Filter, IsInitiator, IsJobOf, Job, Role, Serving}
use Rattle.command_line.specs.Jobs.Job.{Filters, Serve}
use Rattle.command_line.specs.Jobs.Role.{Coordinator, Initiator, Participant}
use Rattle.command_line.specs.Reports.{IsReport, bad_line, status_of}
use Rattle.command_line.specs.Servings.{HasServed, Initiates, Refuses, initiates, is_initiator, role_of, status_by}
use Rattle.command_line.specs.Views.{Leaves, Tells, meant_role, statuses_of}
use Rattle.command_line.specs.declared.job.NoJob.{NoJob}
use Rattle.command_line.specs.declared.job.NoJob.TheVariants as none
use Rattle.command_line.specs.declared.job.Role.{Role as NamedRole}
use Rattle.command_line.specs.declared.job.Role.TheVariants as roles
use Rattle.command_line.proofs.Reports.{on_some}
use Rattle.command_line.proofs.Words.{asks_nothing}

pub sink_failed : (ended : Ended) → status_by ended ≡ 5 → ended ≡ endings.SinkFailed
sink_failed endings.Done e = absurd cc
sink_failed endings.SinkFailed e = refl
sink_failed endings.DiskFailed e = absurd cc
sink_failed endings.Halted e = absurd cc
sink_failed endings.BadJournal e = absurd cc
sink_failed endings.NoJournal e = absurd cc
sink_failed endings.ListenerFailed e = absurd cc
sink_failed endings.NoMemory e = absurd cc
sink_failed endings.Spent e = absurd cc
sink_failed endings.Full e = absurd cc
sink_failed endings.Unmet e = absurd cc

pub has_served : {S : Type 0} (told : S → Told) (s : Serving) (lines : List InitiatorLine) (role : Role_served) (ended : Ended) (status : ℕ) (x y : Option (List ℕ)) (old new : S)
    → role ≡ role_of s.role → Serves told (record { base = base_at s.listen s.base; journal = s.journal; listen = s.listen; role = role; limit = 4294967295; lines = lines; turns = s.turns }) ended x y old new
    → status ≡ status_by ended → HasServed told s lines status x y old new
has_served told s lines role ended status x y old new e h is =
    HasServed.served ended (subst (λ r. Serves told (record { base = base_at s.listen s.base; journal = s.journal; listen = s.listen; role = r; limit = 4294967295; lines = lines; turns = s.turns }) ended x y old new) e h) is

refused_as : (bad : BadLine) (status : ℕ) (a b : Bool) (x y : Option (List ℕ)) → nat_eq status 3 ≡ a → nat_eq status 5 ≡ b → IsTrue (a || (b || false))
    → (status ≡ 3 → Appends x y (bad_line bad)) → (n : ℕ) × ((n ≤ length (bad_line bad)) × Appends x y (take n (bad_line bad))) → Refuses bad status x y
refused_as bad status true b x y e f h all part = let is = eqb-true status 3 e in inl (is, all is)
refused_as bad status false true x y e f h all part = inr (inl (eqb-true status 5 f, part))
refused_as bad status false false x y e f h all part = absurd cc

pub refuses : (bad : BadLine) (status : ℕ) (output : Output) (x y : Option (List ℕ)) → output ≡ refusing (bad_line bad)
    → IsTrue (list_any (nat_eq status) (status_of output ∷ 5 ∷ [])) → (status ≡ status_of output → Appends x y output.text)
    → (n : ℕ) × ((n ≤ length output.text) × Appends x y (take n output.text)) → Refuses bad status x y
refuses bad status output x y e h all part =
    by (subst (λ o. IsTrue (list_any (nat_eq status) (status_of o ∷ 5 ∷ []))) e h)
    (subst (λ o. status ≡ status_of o → Appends x y o.text) e all)
    (subst (λ o. (n : ℕ) × ((n ≤ length o.text) × Appends x y (take n o.text))) e part)
  where
    by : IsTrue (list_any (nat_eq status) (3 ∷ 5 ∷ [])) → (status ≡ 3 → Appends x y (bad_line bad)) → (n : ℕ) × ((n ≤ length (bad_line bad)) × Appends x y (take n (bad_line bad))) → Refuses bad status x y
    by h all part = refused_as bad status (nat_eq status 3) (nat_eq status 5) x y refl refl h all part

module _ {S : Type 0} (told : S → Told) (s : Serving) (left : Option (List ℕ)) (status : ℕ) (x y : Option (List ℕ)) (old new : S) where
  pub initiated : (before now : ℕ) (bytes said : List ℕ) (lines asked : List InitiatorLine) → IsWhole left before now bytes → said ≡ bytes → initiator_lines_of said ≡ Ok lines → asked ≡ lines
      → HasServed told s asked status x y old new → Initiates told s left status x y old new
  initiated before now bytes said lines asked whole e is same h =
      Initiates.served lines
      (on_some {P = λ input. bytes ≡ input} {Q = λ input. initiator_lines_of input ≡ Ok lines} left (λ input f. subst (λ z. initiator_lines_of z ≡ Ok lines) (e ∙ f) is) whole.all)
      (subst (λ z. HasServed told s z status x y old new) same h)

  pub refused : (before now : ℕ) (bytes said : List ℕ) (bad : BadLine) → IsWhole left before now bytes → said ≡ bytes → initiator_lines_of said ≡ Err bad → Refuses bad status x y → new ≡ old
      → Initiates told s left status x y old new
  refused before now bytes said bad whole e is h same =
      Initiates.refused bad
      (on_some {P = λ input. bytes ≡ input} {Q = λ input. initiator_lines_of input ≡ Err bad} left (λ input f. subst (λ z. initiator_lines_of z ≡ Err bad) (e ∙ f) is) whole.all)
      h same

-- what is said of the line that is named
pub of_named : (error : ScheduleError) (bad : BadLine) (P : BadLine → Type 0) → error ≡ errors.Bad bad → IfBad error P → P bad
of_named error bad P e h = subst (λ x. IfBad x P) e h

appends_nothing : (x : Option (List ℕ)) → Appends x x []
appends_nothing None = tt
appends_nothing (Some xs) = sym (append-nil xs)

pub unread : {S : Type 0} (told : S → Told) (s : Serving) (left : Option (List ℕ)) (status : ℕ) (x : Option (List ℕ)) (old : S) → IsTrue (list_any (nat_eq status) (4 ∷ 9 ∷ 10 ∷ []))
    → Initiates told s left status x x old old
unread told s left status x old h = Initiates.unread h (appends_nothing x) refl

serving_in : Serving → Job → Serving
serving_in s (Serve r) = r
serving_in s other = s

-- the words name one node
pub initiated_as : {S : Type 0} (told : S → Told) (s r : Serving) (left : Option (List ℕ)) (status : ℕ) (x y : Option (List ℕ)) (old new : S) → Serve s ≡ Serve r
    → (initiates s ≡ true → Initiates told s left status x y old new) → initiates r ≡ true → Initiates told r left status x y old new
unfolding serving_in
initiated_as told s r left status x y old new e h = subst (λ z. initiates z ≡ true → Initiates told z left status x y old new) (ap (serving_in s) e) h

pub served_as : {S : Type 0} (told : S → Told) (s r : Serving) (lines : List InitiatorLine) (status : ℕ) (x y : Option (List ℕ)) (old new : S) → Serve s ≡ Serve r
    → (initiates s ≡ false → HasServed told s lines status x y old new) → initiates r ≡ false → HasServed told r lines status x y old new
unfolding serving_in
served_as told s r lines status x y old new e h = subst (λ z. initiates z ≡ false → HasServed told z lines status x y old new) (ap (serving_in s) e) h

pub no_initiator : (r : NamedRole) → (r ≡ roles.Coordinator) ⊎ (r ≡ roles.Participant) → is_initiator (meant_role r) ≡ true → ⊥
no_initiator r (inl e) t = let no_more : true ≡ false = sym t ∙ ap (λ x. is_initiator (meant_role x)) e in absurd cc
no_initiator r (inr e) t = let no_more : true ≡ false = sym t ∙ ap (λ x. is_initiator (meant_role x)) e in absurd cc

pub no_more_given : (n : ℕ) → n + 1048576 < n → ⊥
no_more_given n h = omega (arith, h)

-- words that are a job, for which there was no memory
pub unserved : {S : Type 0} (told : S → Told) (words : List Text) (reason : NoJob) (s : Serving) (lines : List InitiatorLine) (status : ℕ) (x y : Option (List ℕ)) (old : S) → Tells words reason
    → IsJobOf words (Serve s) → IsTrue (list_any (nat_eq status) (statuses_of reason)) → Leaves reason (Appends x y []) → HasServed told s lines status x y old old
unserved told words none.NoMemory s lines status x y old h j is quiet = by (nat_eq status 9) refl is
  where
    by : (b : Bool) → nat_eq status 9 ≡ b → IsTrue (b || false) → HasServed told s lines status x y old old
    by true e f = HasServed.unserved (eqb-true status 9 e) quiet refl
    by false e f = absurd cc
unserved told words (none.Question text) s lines status x y old h j is quiet = absurd (asks_nothing (fault_of whole words) j.0 h)
unserved told words (none.Refused text) s lines status x y old h j is quiet = absurd (h.0.0 (Serve s, j))
unserved told words none.UnknownState s lines status x y old h j is quiet = absurd (h.0.0 (Serve s, j))
unserved told words none.NoDestination s lines status x y old h j is quiet = absurd (h.0.0 (Serve s, j))
unserved told words none.NoNumbers s lines status x y old h j is quiet = absurd (h.0.0 (Serve s, j))
unserved told words none.NoJournalBase s lines status x y old h j is quiet = absurd (h.0.0 (Serve s, j))
unserved told words none.NoServing s lines status x y old h j is quiet = absurd (h.0.0 (Serve s, j))
unserved told words none.NoBase s lines status x y old h j is quiet = absurd (h.0.0 (Serve s, j))

pub allowed : (may a b : Bool) → may ≡ true → may ≡ (a && b) → (a ≡ true) × (b ≡ true)
allowed may true true t e = (refl, refl)
allowed may true false t e = absurd cc
allowed may false b t e = absurd cc

-- a filter without faults reports, unless there was no memory for its words
pub unreported : (words : List Text) (reason : NoJob) (filter : Filter) (input : List ℕ) (status : ℕ) (x y : Option (List ℕ)) → Tells words reason
    → IsJobOf words (Filters filter) → IsTrue (list_any (nat_eq status) (statuses_of reason)) → Leaves reason (Appends x y []) → IsReport filter input x y status
unreported words none.NoMemory filter input status x y h j is quiet = by (nat_eq status 9) refl is
  where
    by : (b : Bool) → nat_eq status 9 ≡ b → IsTrue (b || false) → IsReport filter input x y status
    by true e f = inr (record { silent = quiet; cause = inl (eqb-true status 9 e) })
    by false e f = absurd cc
unreported words (none.Question text) filter input status x y h j is quiet = absurd (asks_nothing (fault_of whole words) j.0 h)
unreported words (none.Refused text) filter input status x y h j is quiet = absurd (h.0.0 (Filters filter, j))
unreported words none.UnknownState filter input status x y h j is quiet = absurd (h.0.0 (Filters filter, j))
unreported words none.NoDestination filter input status x y h j is quiet = absurd (h.0.0 (Filters filter, j))
unreported words none.NoNumbers filter input status x y h j is quiet = absurd (h.0.0 (Filters filter, j))
unreported words none.NoJournalBase filter input status x y h j is quiet = absurd (h.0.0 (Filters filter, j))
unreported words none.NoServing filter input status x y h j is quiet = absurd (h.0.0 (Filters filter, j))
unreported words none.NoBase filter input status x y h j is quiet = absurd (h.0.0 (Filters filter, j))

-- who is no initiator leaves the source alone
pub unread_by : (words : List Text) (s : Serving) (P : Type 0) → (IsInitiator words → ⊥) → IsJobOf words (Serve s) → (initiates s ≡ false → P) → P
unread_by words s P n j f = by s.role refl
  where
    by : (r : Role) → s.role ≡ r → P
    by Coordinator e = f (ap is_initiator e)
    by Participant e = f (ap is_initiator e)
    by Initiator e = absurd (n (s, e, j))
