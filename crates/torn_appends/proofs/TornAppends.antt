-- What is left of an append that is cut off.
use Rattle.std.specs.Prelude.{ℕ, List, Bool, true, false, zero, suc, [], ◌∷◌, ◌++◌, ◌+◌, ◌≡◌, ◌≤◌, ◌⊎◌, length, nat_eq}
use Rattle.std.specs.List.{AllByRecursion}
use Rattle.std.proofs.Common.{inl, inr, refl, sym, ap, subst, ◌∙◌, arith}
use Rattle.std.proofs.lemmas.List.{length-append}
use Rattle.site_model.specs.Told.{Made, Files, other_than, written}
use Rattle.site_memory.specs.Devices.{calls_in, opening_in}
use Rattle.site_memory.specs.Disk.{ChosenAreImages, Disk, chosen, chosen_files, disk, run, which_of}
use Rattle.site_memory.specs.Sites.{told_of}
use Rattle.site_memory.specs.declared.arm.Choice.{Choice}
use Rattle.site_memory.specs.declared.arm.Choice.TheVariants.{Drop, Fill, Keep}
use Rattle.site_memory.specs.declared.machine.MemSite.{MemSite}
use Rattle.site_memory.specs.declared.range.Which.TheVariants.{First}
use Rattle.journal_at.specs.Format.{Closed, FileOf, frames, head_of}
use Rattle.journal_at.specs.Pairs.{Holds, IsJournal}
use Rattle.journal_at.specs.StandingBodies.{Keeps, MayFollow, lay, raise}
use Rattle.journal_at.specs.declared.journal.Journal.{Journal}
use Rattle.journal_at.proofs.Appends.{live_more}
use Rattle.journal_at.proofs.NewJournals.{journal_of, lays_short, new_beside, new_live}
use Rattle.journal_at.proofs.TornWrites.{Staged, closed_written, staged_closed}
use Rattle.torn_appends.specs.TornAppends.{AppendsTorn, IsSending, stands_behind, up_to, with_body}
use Rattle.torn_appends.proofs.DiskRuns.{beside_of, live_chosen, other_chosen, run_on, sendings}
use Rattle.torn_appends.proofs.GateWrites.{framed, gate_raised, gate_torn, still_closed}
use Rattle.torn_appends.proofs.ShortFiles.{AreShort, short_sync, short_write}

module _ (end : ℕ) (body : List ℕ) where
  -- the first calls of an append to that file
  abbrev pub row : ℕ → ℕ → Bool → List Made
  row live k last = up_to k last (lay live end body ++ raise live end)

  -- the live file goes as if it were the first
  pub goes : (live k : ℕ) (last : Bool) (d : Disk) → run (which_of live) d (row live k last) ≡ run First d (row 0 k last)
  goes zero k last d = refl
  goes (suc n) zero last d = refl
  goes (suc n) (suc zero) last d = refl
  goes (suc n) (suc (suc zero)) last d = refl
  goes (suc n) (suc (suc (suc zero))) last d = refl
  goes (suc n) (suc (suc (suc (suc zero)))) last d = refl
  goes (suc n) (suc (suc (suc (suc (suc k))))) last d = refl

  pub stays : (live k : ℕ) (last : Bool) (d : Disk) → run (beside_of live) d (row live k last) ≡ d
  stays zero zero last d = refl
  stays zero (suc zero) last d = refl
  stays zero (suc (suc zero)) last d = refl
  stays zero (suc (suc (suc zero))) last d = refl
  stays zero (suc (suc (suc (suc zero)))) last d = refl
  stays zero (suc (suc (suc (suc (suc k))))) last d = refl
  stays (suc n) zero last d = refl
  stays (suc n) (suc zero) last d = refl
  stays (suc n) (suc (suc zero)) last d = refl
  stays (suc n) (suc (suc (suc zero))) last d = refl
  stays (suc n) (suc (suc (suc (suc zero)))) last d = refl
  stays (suc n) (suc (suc (suc (suc (suc k))))) last d = refl

  -- the append of a mark to a new journal leaves a short file
  pub short_row : (end + 1) + length (framed body) ≤ 11 → (k : ℕ) (last : Bool) (d : Disk) → AreShort d → AreShort (run First d (row 0 k last))
  short_row l zero last d h = h
  short_row l (suc zero) last d h = short_write (end + 1) (framed body) last d l h
  short_row l (suc (suc zero)) last d h = short_sync last _ (short_write (end + 1) (framed body) true d l h)
  short_row l (suc (suc (suc zero))) last d h = short_write end (1 ∷ []) last _ (omega (arith, l)) (short_sync true _ (short_write (end + 1) (framed body) true d l h))
  short_row l (suc (suc (suc (suc zero)))) last d h = short_sync last _ (short_write end (1 ∷ []) true _ (omega (arith, l)) (short_sync true _ (short_write (end + 1) (framed body) true d l h)))
  short_row l (suc (suc (suc (suc (suc k))))) last d h = short_sync true _ (short_write end (1 ∷ []) true _ (omega (arith, l)) (short_sync true _ (short_write (end + 1) (framed body) true d l h)))

  module _ (bodies : List (List ℕ)) (e : end ≡ length (frames bodies)) (d : Disk) (all : (c : Choice) → Closed bodies (chosen c d)) where
    staged : Staged bodies body (written (end + 1) (framed body) d.seen)
    staged = closed_written bodies body (end + 1) d.seen (ap (λ n. n + 1) e) (all Keep)

    -- all calls up to the sync were done
    settled : (choice : Choice) → Closed bodies (chosen choice (run First d (row 0 2 true)))
    settled Keep = staged_closed bodies body _ staged
    settled Drop = staged_closed bodies body _ staged
    settled (Fill byte) = staged_closed bodies body _ staged

    pub appended_live : (choice : Choice) → Closed (bodies ++ body ∷ []) (chosen choice (run First d (row 0 4 true)))
    appended_live Keep = gate_raised bodies body end e _ staged
    appended_live Drop = gate_raised bodies body end e _ staged
    appended_live (Fill byte) = gate_raised bodies body end e _ staged

    pub stopped_live : (n : ℕ) (choice : Choice) → n ≤ 4 → Closed (with_body (stands_behind n choice) bodies body) (chosen choice (run First d (row 0 n true)))
    stopped_live zero choice most = all choice
    stopped_live (suc zero) choice most = still_closed bodies body end e choice d all true
    stopped_live (suc (suc zero)) choice most = settled choice
    stopped_live (suc (suc (suc zero))) choice most = gate_torn bodies body end e _ staged choice
    stopped_live (suc (suc (suc (suc zero)))) choice most = appended_live choice
    stopped_live (suc (suc (suc (suc (suc n))))) choice most = absurd (omega (arith, most))

    pub halted_live : (k : ℕ) → (k ≡ 3) ⊎ (k ≡ 4) → Closed (with_body (nat_eq k 4) bodies body) (chosen Keep (run First d (row 0 k false)))
    halted_live k (inl is) = subst (λ z. Closed (with_body (nat_eq z 4) bodies body) (chosen Keep (run First d (row 0 z false)))) (sym is) (staged_closed bodies body _ staged)
    halted_live k (inr is) = subst (λ z. Closed (with_body (nat_eq z 4) bodies body) (chosen Keep (run First d (row 0 z false)))) (sym is) (gate_raised bodies body end e _ staged)

-- a list with one more has one
none_more : (bodies : List (List ℕ)) (body : List ℕ) → bodies ++ body ∷ [] ≡ [] → ⊥
none_more bodies body none = absurd (omega (arith, ap length none, length-append bodies (body ∷ [])))

no_body : (t : Bool) (bodies : List (List ℕ)) (body : List ℕ) → with_body t bodies body ≡ [] → bodies ≡ []
no_body true bodies body none = absurd (none_more bodies body none)
no_body false bodies body none = none

pub same_generation : (t : Bool) (bodies : List (List ℕ)) (body : List ℕ) → MayFollow bodies body → (head_of (with_body t bodies body)).generation ≡ (head_of bodies).generation
same_generation true bodies body follows = follows.generation
same_generation false bodies body follows = refl

-- what the calls leave of the live file, beside the other one, which they don't touch
pub holds_then : (live : ℕ) (bodies after : List (List ℕ)) (choice : Choice) (opening : Files) (log made : List Made) (d : Disk) → Holds live bodies (chosen_files choice opening log)
    → run (which_of live) (disk (which_of live) opening log) made ≡ d → run (beside_of live) (disk (beside_of live) opening log) made ≡ disk (beside_of live) opening log
    → (head_of after).generation ≡ (head_of bodies).generation → (after ≡ [] → (bodies ≡ []) × (length (chosen choice d) ≤ 11)) → Closed after (chosen choice d) → Holds live after (chosen_files choice opening (log ++ made))
holds_then live bodies after choice opening log made d before is kept same short closed =
    let on = live_chosen live choice opening (log ++ made) ∙ ap (chosen choice) (run_on (which_of live) _ log made ∙ is) in
    let other = other_chosen live choice opening (log ++ made) ∙ ap (chosen choice) (run_on (beside_of live) _ log made ∙ kept) in
    let unmoved : other_than live (chosen_files choice opening (log ++ made)) ≡ other_than live (chosen_files choice opening log) = other ∙ sym (other_chosen live choice opening log) in
    record {
      closed = subst (Closed after) (sym on) closed;
      beside = record { others = before.beside.others; is = subst (λ z. FileOf z before.beside.others) (sym unmoved) before.beside.is; newer = live_more live bodies after before.beside.others same before.beside.newer };
      journal = journal_of after _ (λ none.
          let s = short none in
          new_beside live _ _ (subst (λ z. length z ≤ 11) (sym on) s.1) unmoved (subst (λ z. IsJournal z (chosen_files choice opening log)) s.0 before.journal));
    }

module _ (images : ChosenAreImages) (journal : Journal) (bodies : List (List ℕ)) (s : MemSite) (keeps : Keeps journal bodies (told_of s)) where
  abbrev pub log_of : List Made
  log_of = calls_in s.device

  abbrev pub opening_of : Files
  opening_of = opening_in s.device

  abbrev pub live_disk : Disk
  live_disk = disk (which_of journal.live) opening_of log_of

  pub held : (choice : Choice) → Holds journal.live bodies (chosen_files choice opening_of log_of)
  held choice = keeps.stands.images _ (images choice opening_of log_of)

  pub closed_live : (choice : Choice) → Closed bodies (chosen choice live_disk)
  closed_live choice = subst (Closed bodies) (live_chosen journal.live choice opening_of log_of) (held choice).closed

  -- of a new journal's file
  pub short_live : bodies ≡ [] → AreShort live_disk
  short_live none choice =
      subst (λ z. length z ≤ 11) (live_chosen journal.live choice opening_of log_of)
      (new_live journal.live _ (subst (λ z. IsJournal z (chosen_files choice opening_of log_of)) none (held choice).journal))

  pub untouched : (rest : List Made) (choice : Choice) → AllByRecursion IsSending rest → Holds journal.live bodies (chosen_files choice opening_of (log_of ++ rest))
  untouched rest choice all = holds_then journal.live bodies bodies choice opening_of log_of rest live_disk (held choice) (sendings _ _ rest all) (sendings _ _ rest all) refl (λ none. (none, short_live none choice)) (closed_live choice)

  module _ (body : List ℕ) (follows : MayFollow bodies body) where
    pub row_holds : (k : ℕ) (last t : Bool) (choice : Choice) → Closed (with_body t bodies body) (chosen choice (run First live_disk (row journal.end body 0 k last)))
        → Holds journal.live (with_body t bodies body) (chosen_files choice opening_of (log_of ++ row journal.end body journal.live k last))
    row_holds k last t choice closed =
        holds_then journal.live bodies (with_body t bodies body) choice opening_of log_of (row journal.end body journal.live k last) _ (held choice)
        (goes journal.end body journal.live k last live_disk) (stays journal.end body journal.live k last _) (same_generation t bodies body follows)
        (λ none. let first = no_body t bodies body none in (first, short_row journal.end body (lays_short bodies body journal.end keeps.end follows.begins first) k last live_disk (short_live first) choice))
        closed

    pub appended : (rest : List Made) (choice : Choice) → AllByRecursion IsSending rest → Holds journal.live (bodies ++ body ∷ []) (chosen_files choice opening_of (log_of ++ (row journal.end body journal.live 4 true ++ rest)))
    appended rest choice all =
        holds_then journal.live bodies (bodies ++ body ∷ []) choice opening_of log_of (row journal.end body journal.live 4 true ++ rest) _ (held choice)
        (run_on _ _ (row journal.end body journal.live 4 true) rest ∙ sendings _ _ rest all ∙ goes journal.end body journal.live 4 true live_disk)
        (run_on _ _ (row journal.end body journal.live 4 true) rest ∙ sendings _ _ rest all ∙ stays journal.end body journal.live 4 true _)
        follows.generation (λ none. absurd (none_more bodies body none)) (appended_live journal.end body bodies keeps.end live_disk closed_live choice)

pub appends_torn : ChosenAreImages → AppendsTorn
appends_torn images =
    record {
      stopped = λ journal bodies body s n choice may most.
          row_holds images journal bodies s may.keeps body may.follows n true _ choice
          (stopped_live journal.end body bodies may.keeps.end _ (closed_live images journal bodies s may.keeps) n choice most);
      halted = λ journal bodies body s k may either.
          row_holds images journal bodies s may.keeps body may.follows k false _ Keep
          (halted_live journal.end body bodies may.keeps.end _ (closed_live images journal bodies s may.keeps) k either);
      appended = λ journal bodies body s rest choice may all. appended images journal bodies s may.keeps body may.follows rest choice all;
      untouched = λ journal bodies s rest choice keeps all. untouched images journal bodies s keeps rest choice all;
    }
