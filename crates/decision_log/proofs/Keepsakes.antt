-- What is kept of well-formed records.
use Rattle.std.proofs.Common.{ℕ, List, [], ◌∷◌, ◌++◌, sym, ◌∙◌, ap}
use Rattle.std.specs.List.{AllByRecursion}
use Rattle.at_base.specs.WellFormed.{IsWellFormed}
use Rattle.at_base.specs.declared.record.Record.{Record}
use Rattle.journal_at.specs.declared.version.Version.{Version}
use Rattle.journal_at.specs.declared.version.Version.TheVariants.{One, Two}
use Rattle.decision_log.specs.Folds.{AreRecords, IsFolded}
use Rattle.decision_log.specs.KeptRecords.{IsKept, KeepsOn, Known, after}
use Rattle.decision_log.proofs.RecordFolds.{grows_by_one}
use Rattle.decision_log.proofs.Migrations.{moved, moved_formed, moves}

formed_push : (rs : List Record) (r : Record) → AllByRecursion IsWellFormed rs → IsWellFormed r → AllByRecursion IsWellFormed (rs ++ r ∷ [])
formed_push [] r h k = (k, tt)
formed_push (x ∷ rs) r (h, l) k = (h, formed_push rs r l k)

pub keeps_on : KeepsOn
keeps_on k r h f = record { all = h.all ++ r ∷ []; formed = formed_push h.all r h.formed f; is = ap (after r) h.is ∙ grows_by_one h.all r }

formed : (version : Version) (rs : List Record) (bodies : List (List ℕ)) → AreRecords version rs bodies → AllByRecursion IsWellFormed rs
formed version [] bodies h = tt
formed version (r ∷ rs) [] h = absurd h
formed version (r ∷ rs) (b ∷ bodies) (h, k) = (h.formed, formed version rs bodies k)

pub is_kept : (version : Version) (bodies : List (List ℕ)) (k : Known) → IsFolded version bodies k → IsKept k
is_kept Two bodies k h = record { all = h.all; formed = formed Two h.all bodies h.are; is = h.is }
is_kept One bodies k h = record { all = moved h.all; formed = moved_formed h.all (formed One h.all bodies h.are); is = h.is ∙ sym (moves h.all) }
