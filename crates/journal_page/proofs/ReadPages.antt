-- The page of a journal that was read.
use Rattle.std.proofs.Common.{ℕ, ◌≡◌, inl, inr, sym, subst, ap, ◌∙◌}
use Rattle.decision_log.specs.Folds.{AreRecords}
use Rattle.decision_log.specs.KeptRecords.{Known, kept_of}
use Rattle.decision_log.specs.KeptState.{known}
use Rattle.journal_at.specs.Pairs.{IsForeign}
use Rattle.journal_at.specs.Scans.{records_in}
use Rattle.record_bytes.specs.Versions.{AreApart}
use Rattle.site_model.specs.Told.{Files}
use Rattle.journal_page.specs.Contents.{IsBadAt}
use Rattle.journal_page.specs.Pages.{IsPageOf, Printed, bad_page, lines_of, no_journal_page}
use Rattle.journal_page.specs.Readings.{IsRead}
use Rattle.journal_page.specs.Wholes.{IsWholeOf}
use Rattle.journal_page.specs.declared.standing.Standing.{Standing}
use Rattle.journal_page.proofs.OneStanding.{records_one}

pub is_whole : AreApart → (files : Files) (s : Standing) (p : Printed) → IsRead files s → IsWholeOf s p → IsPageOf files p
is_whole apart files s p h w =
    let same = records_one apart s.records.version s.records.version h.folded.all w.entries (records_in s.records) h.folded.are w.are in
    let kept : known s.kept ≡ kept_of s.records.version w.entries = h.folded.is ∙ ap (kept_of s.records.version) same in
    inl (record {
      contents = record { version = s.records.version; generation = s.generation; records = w.entries };
      stand = record {
        live = h.live;
        bodies = h.bodies;
        held = h.held;
        version = h.version;
        generation = h.generation;
        are = subst (AreRecords s.records.version w.entries) (sym h.texts) w.are;
      };
      is = w.is ∙ ap (λ (k : Known). record { text = lines_of s.records.version s.generation w.entries k; is_bad = Rattle.std.specs.Prelude.false }) kept;
    })

pub is_refusal : (files : Files) (file place : ℕ) (p : Printed) → IsBadAt file place files → p ≡ bad_page file place → IsPageOf files p
is_refusal files file place p b e = inr (inl (record { file = file; place = place; bad = b; is = e }))

pub is_none : (files : Files) (p : Printed) → IsForeign files → p ≡ no_journal_page → IsPageOf files p
is_none files p h e = inr (inr (record { none = h; is = e }))
