-- Two files on a machine in memory, read as a journal.
use Rattle.std.proofs.Common.{ℕ, List, [], ◌++◌, ◌≡◌, ◌+◌, inl, inr, sym, ◌∙◌, ap, subst, drop, length, refl, Option, Some, Result, Ok, Err, zero, suc}
use Rattle.std.specs.Prelude.{option_map}
use Rattle.std.proofs.lemmas.List.{append-nil}
use Rattle.site_model.specs.Told.{Files, Made, Told, Is, with_file, written}
use Rattle.site_memory.specs.Tells.{reads}
use Rattle.decision_log.specs.Folds.{IsFolded}
use Rattle.decision_log.specs.KeptState.{known}
use Rattle.journal_at.specs.declared.journal.Journal.{Journal}
use Rattle.journal_at.specs.declared.load.LoadFault.TheVariants as loaded
use Rattle.journal_at.specs.declared.records.Records.{Records}
use Rattle.journal_at.specs.Loads.{Fails, Opens}
use Rattle.journal_at.specs.Scans.{records_in}
use Rattle.journal_page.specs.Contents.{IsBadAt}
use Rattle.journal_page.specs.Readings.{Keeps, Reads}
use Rattle.journal_page.specs.declared.standing.Standing.{Standing}
use Rattle.journal_page.specs.declared.standing.Unread.{Unread}
use Rattle.journal_page.specs.declared.standing.Unread.TheVariants.{NoMemory, Bad, NoJournal}

nothing_dropped : (n : ℕ) → drop {A = ℕ} n [] ≡ []
nothing_dropped zero = refl
nothing_dropped (suc n) = refl

fresh : (bytes : List ℕ) → written 0 bytes [] ≡ bytes
fresh bytes = ap (λ rest. bytes ++ rest) (nothing_dropped (0 + length bytes)) ∙ append-nil bytes

pub both_written : (opening : Files) (calls : List Made) (one two : Option Files) (first second : List ℕ) → opening ≡ record { first = []; second = [] } → calls ≡ []
    → one ≡ option_map (with_file 0 (written 0 first)) (Some (reads opening calls)) → two ≡ option_map (with_file 1 (written 0 second)) one
    → two ≡ Some (record { first = first; second = second })
both_written opening calls one two first second e f g h =
    h ∙ (ap (option_map (with_file 1 (written 0 second))) (g ∙ (λ i. option_map (with_file 0 (written 0 first)) (Some (reads (e i) (f i)))))
    ∙ (λ i. Some (record { first = fresh first i; second = fresh second i })))

pub is_read : (f : Files) (journal : Journal) (records : Records) (r : Result Standing Unread) (old new : Told) → Is old.files f → Opens journal records old new → Keeps r journal records → Reads r f
is_read f journal records (Ok s) old new h o k = record {
  live = journal.live;
  bodies = o.bodies;
  held = o.held f h;
  version = o.version ∙ sym (ap (λ z. z.version) k.same);
  generation = sym o.keeps.generation ∙ sym k.generation;
  texts = o.records_are ∙ sym (ap records_in k.same);
  folded = subst (λ (z : Records). IsFolded z.version (records_in z) (known s.kept)) (sym k.same) k.folded;
}
is_read f journal records (Err NoMemory) old new h o k = tt
is_read f journal records (Err (Bad file place)) old new h o k = subst (λ z. IsBadAt z place f) (sym k.live) (inr (record {
  bodies = o.bodies;
  held = o.held f h;
  found = records;
  version = o.version;
  same = o.records_are;
  placed = o.placed;
  bad = k.bad;
}))
is_read f journal records (Err NoJournal) old new h o k = absurd k

pub no_list : (f : Files) (file place : ℕ) (old new : Told) → Is old.files f → Fails (loaded.Bad file place) old new → Reads (Err (Bad file place)) f
no_list f file place old new h k = inl (k.cause f h)

pub no_journal : (f : Files) (old new : Told) → Is old.files f → Fails loaded.NoJournal old new → Reads (Err NoJournal) f
no_journal f old new h k = k.cause f h
