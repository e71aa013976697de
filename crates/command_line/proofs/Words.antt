-- What an error of clap's says of the words.
use Rattle.std.proofs.Common.{◌≡◌, ◌≢◌, ℕ, List, [], ◌∷◌, Option, None, Some, nat_eq, Bool, true, false, ap, subst, sym, ◌∙◌, inl, inr, IsTrue, ◌⊎◌}
use Rattle.clap.specs.Faults.{fault_of}
use Rattle.clap.specs.Kinds.{HasKind, IsAmong, Kinds}
use Rattle.clap.specs.Values.{kind_of}
use Rattle.clap.specs.Simple.{subcommand_of}
use Rattle.clap.specs.Walk.{Row, Text}
use Rattle.clap.specs.declared.error.Error.{Error}
use Rattle.clap.specs.declared.error.kind.ErrorKind.{ErrorKind}
use Rattle.clap.specs.declared.error.kind.ErrorKind.TheVariants.{OutOfMemory}
use Rattle.command_line.specs.Commands.{whole}
use Rattle.command_line.specs.Jobs.{IsFaulty, IsJob, asks, asks_for}
use Rattle.command_line.specs.Views.{Says, SaysUnread, Tells, statuses_of, told, unread_text}
use Rattle.std.specs.List.{list_any}
use Rattle.std.specs.Io.KnownBytes.{Appends}
use Rattle.command_line.specs.declared.job.NoJob.{NoJob}
use Rattle.command_line.specs.declared.job.NoJob.TheVariants.{NoBase, NoDestination, NoJournalBase, NoMemory, NoNumbers, NoServing, Question, Refused, UnknownState}
use Rattle.command_line.proofs.Purity.{IsPure, fault_is_pure}

no_job : (words : List Text) → fault_of whole words ≢ [] → IsJob words → ⊥
no_job words h (job, (e, means)) = h e

none_among : (k : ErrorKind) (kinds : Kinds) → kinds ≡ [] → IsAmong k kinds → ⊥
none_among k kinds e h = let none : IsAmong k [] = subst (IsAmong k) e h in none

not_true : (b : Bool) → b ≡ false → IsTrue b → ⊥
not_true b e h = let no_more : false ≡ true = sym e ∙ h in absurd cc

asked : (kinds : Kinds) (k : ErrorKind) → IsPure kinds → (k ≡ OutOfMemory) ⊎ IsAmong k kinds → asks_for k ≡ true → IsTrue (asks kinds)
asked kinds k pure (inl e) a = let no_more : false ≡ true = ap asks_for (sym e) ∙ a in absurd cc
asked kinds k pure (inr h) a = sym (pure.agree k h) ∙ a

refusal : (words : List Text) (k : ErrorKind) → IsPure (fault_of whole words) → (k ≡ OutOfMemory) ⊎ IsAmong k (fault_of whole words) → asks_for k ≡ false → k ≢ OutOfMemory
    → IsFaulty words × (fault_of whole words ≢ [])
refusal words k pure (inl e) a n = absurd (n e)
refusal words k pure (inr h) a n =
    ((no_job words (λ e. none_among k (fault_of whole words) e h), not_true (asks (fault_of whole words)) (sym (pure.agree k h) ∙ a)), (λ e. none_among k (fault_of whole words) e h))

pub told_of : (words : List Text) (error : Error) (answer : NoJob) → HasKind (fault_of whole words) error → Says (kind_of error) answer → Tells words answer
told_of words error NoMemory h s = tt
told_of words error (Question text) h s = asked (fault_of whole words) (kind_of error) (fault_is_pure words) h s
told_of words error (Refused text) h s = refusal words (kind_of error) (fault_is_pure words) h s.0 s.1
told_of words error UnknownState h s = absurd s
told_of words error NoDestination h s = absurd s
told_of words error NoNumbers h s = absurd s
told_of words error NoJournalBase h s = absurd s
told_of words error NoServing h s = absurd s
told_of words error NoBase h s = absurd s

pub asks_nothing : (kinds : Kinds) → kinds ≡ [] → IsTrue (asks kinds) → ⊥
asks_nothing kinds e h = not_true (asks kinds) (ap asks e) h

pub unread : (words : List Text) (found : Option (Text × List Row)) (name : Text) (rows : List Row) (answer : NoJob) → fault_of whole words ≡ [] → found ≡ subcommand_of whole words
    → found ≡ Some (name, rows) → SaysUnread name rows answer → (IsJob words → ⊥) → Tells words answer
unread words found name rows NoMemory e f g h n = absurd h
unread words found name rows (Question text) e f g h n = absurd h
unread words found name rows (Refused text) e f g h n = absurd h
unread words found name rows UnknownState e f g h n = ((n, asks_nothing (fault_of whole words) e), e, ap unread_text (sym f ∙ g) ∙ h)
unread words found name rows NoDestination e f g h n = ((n, asks_nothing (fault_of whole words) e), e, ap unread_text (sym f ∙ g) ∙ h)
unread words found name rows NoNumbers e f g h n = ((n, asks_nothing (fault_of whole words) e), e, ap unread_text (sym f ∙ g) ∙ h)
unread words found name rows NoJournalBase e f g h n = ((n, asks_nothing (fault_of whole words) e), e, ap unread_text (sym f ∙ g) ∙ h)
unread words found name rows NoServing e f g h n = ((n, asks_nothing (fault_of whole words) e), e, ap unread_text (sym f ∙ g) ∙ h)
unread words found name rows NoBase e f g h n = ((n, asks_nothing (fault_of whole words) e), e, ap unread_text (sym f ∙ g) ∙ h)

pub none_found : (words : List Text) (found : Option (Text × List Row)) → fault_of whole words ≡ [] → found ≡ subcommand_of whole words → found ≡ None → (IsJob words → ⊥)
    → Tells words UnknownState
none_found words found e f g n = ((n, asks_nothing (fault_of whole words) e), e, ap unread_text (sym f ∙ g))

-- 2 where clap has no fault: what the value may be is said
pub unknown_said : (words : List Text) (reason : NoJob) (old new : Option (List ℕ)) (status : ℕ) (Kept : Type 0) → Tells words reason
    → IsTrue (list_any (nat_eq status) (statuses_of reason)) → (status ≡ 2 → Kept → Appends old new (told reason))
    → status ≡ 2 → fault_of whole words ≡ [] → Kept → Appends old new (unread_text (subcommand_of whole words))
unknown_said words NoMemory old new status Kept h s t e f k = let no_more : IsTrue false = subst (λ n. IsTrue (list_any (nat_eq n) (9 ∷ []))) e s in absurd cc
unknown_said words (Question text) old new status Kept h s t e f k = let no_more : IsTrue false = subst (λ n. IsTrue (list_any (nat_eq n) (0 ∷ 5 ∷ []))) e s in absurd cc
unknown_said words (Refused text) old new status Kept h s t e f k = absurd (h.1 f)
unknown_said words UnknownState old new status Kept h s t e f k = subst (Appends old new) (sym h.2) (t e k)
unknown_said words NoDestination old new status Kept h s t e f k = subst (Appends old new) (sym h.2) (t e k)
unknown_said words NoNumbers old new status Kept h s t e f k = subst (Appends old new) (sym h.2) (t e k)
unknown_said words NoJournalBase old new status Kept h s t e f k = subst (Appends old new) (sym h.2) (t e k)
unknown_said words NoServing old new status Kept h s t e f k = subst (Appends old new) (sym h.2) (t e k)
unknown_said words NoBase old new status Kept h s t e f k = subst (Appends old new) (sym h.2) (t e k)
