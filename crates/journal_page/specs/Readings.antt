-- Two files that are read as a journal.
use Rattle.std.specs.Prelude.{ℕ, List, Result, Ok, Err, ◌≡◌}
use Rattle.decision_log.specs.Folds.{IsBadAt as IsBadBody, IsFolded, placed_in}
use Rattle.decision_log.specs.KeptState.{known}
use Rattle.journal_at.specs.Format.{head_of, records_of}
use Rattle.journal_at.specs.Pairs.{HasLive, IsForeign}
use Rattle.journal_at.specs.Scans.{records_in}
use Rattle.journal_at.specs.declared.journal.Journal.{Journal}
use Rattle.journal_at.specs.declared.records.Records.{Records}
use Rattle.site_model.specs.Told.{Files}
use Rattle.journal_page.specs.Contents.{IsBadAt}
use Rattle.journal_page.specs.declared.standing.Standing.{Standing}
use Rattle.journal_page.specs.declared.standing.Unread.{Unread}
use Rattle.journal_page.specs.declared.standing.Unread.TheVariants.{NoMemory, Bad, NoJournal}

-- the live file's generation and records, and what is kept of these
pub record IsRead (files : Files) (s : Standing) : Type 0 where
  pub live : ℕ
  pub bodies : List (List ℕ)
  pub held : HasLive live bodies files
  pub version : (head_of bodies).version ≡ s.records.version
  pub generation : (head_of bodies).generation ≡ s.generation
  pub texts : records_of bodies ≡ records_in s.records
  pub folded : IsFolded s.records.version (records_in s.records) (known s.kept)

abbrev pub Reads : Result Standing Unread → Files → Type 0
Reads (Ok s) files = IsRead files s
Reads (Err NoMemory) files = Unit {0}
Reads (Err (Bad file place)) files = IsBadAt file place files
Reads (Err NoJournal) files = IsForeign files

pub record IsKept (journal : Journal) (records : Records) (s : Standing) : Type 0 where
  pub generation : s.generation ≡ journal.generation
  pub same : s.records ≡ records
  pub folded : IsFolded records.version (records_in records) (known s.kept)

pub record IsUnkept (journal : Journal) (records : Records) (file place : ℕ) : Type 0 where
  pub live : file ≡ journal.live
  pub bad : IsBadBody records.version (placed_in records) place

abbrev pub Keeps : Result Standing Unread → Journal → Records → Type 0
Keeps (Ok s) journal records = IsKept journal records s
Keeps (Err NoMemory) journal records = Unit {0}
Keeps (Err (Bad file place)) journal records = IsUnkept journal records file place
Keeps (Err NoJournal) journal records = ⊥
