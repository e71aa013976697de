-- Two files on a machine in memory, read as a journal.
use Rattle.std.proofs.Common.{ℕ, List, [], ◌++◌, ◌≡◌, ◌+◌, inl, inr, ◌∙◌, ap, drop, length, refl, Option, Some, Ok, Err, zero, suc}
use Rattle.std.specs.Prelude.{option_map}
use Rattle.std.proofs.lemmas.List.{append-nil}
use Rattle.site_model.specs.Told.{Files, Made, Told, Is, with_file, written}
use Rattle.site_memory.specs.Tells.{reads}
use Rattle.decision_log.specs.declared.fold.FoldFault.TheVariants as folded
use Rattle.decision_log.specs.declared.kept.Kept.{Kept}
use Rattle.decision_log.specs.Folds.{Folds}
use Rattle.journal_at.specs.declared.journal.Journal.{Journal}
use Rattle.journal_at.specs.declared.load.LoadFault.TheVariants as loaded
use Rattle.journal_at.specs.declared.records.Records.{Records}
use Rattle.journal_at.specs.Loads.{Fails, Opens}
use Rattle.audit_cmd.specs.JournalReports.{IsBadJournal, Stands, longer_file}

nothing_dropped : (n : ℕ) → drop {A = ℕ} n [] ≡ []
nothing_dropped zero = refl
nothing_dropped (suc n) = refl

fresh : (bytes : List ℕ) → written 0 bytes [] ≡ bytes
fresh bytes = ap (λ rest. bytes ++ rest) (nothing_dropped (0 + length bytes)) ∙ append-nil bytes

pub both_written : (opening : Files) (calls : List Made) (one two : Option Files) (first second : List ℕ) → opening ≡ record { first = []; second = [] } → calls ≡ []
    → one ≡ option_map (with_file 0 (written 0 first)) (Some (reads opening calls)) → two ≡ option_map (with_file 1 (written 0 second)) one
    → two ≡ Some (record { first = first; second = second })
both_written opening calls one two first second e f g h =
    h ∙ (ap (option_map (with_file 1 (written 0 second))) (g ∙ (λ i. option_map (with_file 0 (written 0 first)) (Some (reads (e i) (f i)))))
    ∙ (λ i. Some (record { first = fresh first i; second = fresh second i })))

pub stands : (f : Files) (journal : Journal) (records : Records) (kept : Kept) (old new : Told) → Is old.files f → Opens journal records old new → Folds (Ok kept) records → Stands f records
stands f journal records kept old new h o k = record { is = o.is f h; all = k.all; are = k.are }

pub no_record : (f : Files) (journal : Journal) (records : Records) (place : ℕ) (old new : Told) → Is old.files f → Opens journal records old new → Folds (Err (folded.Bad place)) records
    → IsBadJournal journal.live place f
no_record f journal records place old new h o k =
    inr (inl (record { found = records; is = o.is f h; bodies = o.bodies; held = o.held f h; same = o.records_are; placed = o.placed; bad = k }))

pub no_list : (f : Files) (file place : ℕ) (old new : Told) → Is old.files f → Fails (loaded.Bad file place) old new → IsBadJournal file place f
no_list f file place old new h k = inl (k.cause f h)

pub no_journal : (f : Files) (file : ℕ) (old new : Told) → Is old.files f → file ≡ longer_file f.first → Fails loaded.NoJournal old new → IsBadJournal file 0 f
no_journal f file old new h e k = inr (inr (record { is = k.cause f h; longer = e; begin = refl }))
