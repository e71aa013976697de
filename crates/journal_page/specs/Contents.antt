-- What the two files of a journal stand for; or where they stand for none.
use Rattle.std.specs.Prelude.{ℕ, List, ◌≡◌, ◌⊎◌}
use Rattle.at_base.specs.declared.record.Record.{Record}
use Rattle.decision_log.specs.Folds.{AreRecords, IsBadAt as IsBadBody, placed_in}
use Rattle.journal_at.specs.Format.{head_of, records_of}
use Rattle.journal_at.specs.Frames.{ArePlaced}
use Rattle.journal_at.specs.Loads.{IsJudged}
use Rattle.journal_at.specs.Pairs.{HasLive}
use Rattle.journal_at.specs.Scans.{records_in}
use Rattle.journal_at.specs.declared.records.Records.{Records}
use Rattle.journal_at.specs.declared.version.Version.{Version}
use Rattle.site_model.specs.Told.{Files}

pub record Contents : Type 0 where
  pub version : Version
  pub generation : ℕ
  pub records : List Record

-- the live file has this version and this generation, and each of its other bodies is the record in its place
pub record StandFor (files : Files) (c : Contents) : Type 0 where
  pub live : ℕ
  pub bodies : List (List ℕ)
  pub held : HasLive live bodies files
  pub version : (head_of bodies).version ≡ c.version
  pub generation : (head_of bodies).generation ≡ c.generation
  pub are : AreRecords c.version c.records (records_of bodies)

-- A body of the live file is no record of its version, and those before it are; the place is its gate's, where its bodies were read.
pub record IsNoRecord (file place : ℕ) (files : Files) : Type 0 where
  pub bodies : List (List ℕ)
  pub held : HasLive file bodies files
  pub found : Records
  pub version : (head_of bodies).version ≡ found.version
  pub same : records_of bodies ≡ records_in found
  pub placed : ArePlaced 0 found.items.items
  pub bad : IsBadBody found.version (placed_in found) place

-- A file stands for no list of bodies, file 0 judged first, as a start judges them; or the live one has a body that is no record.
abbrev pub IsBadAt : ℕ → ℕ → Files → Type 0
IsBadAt file place files = IsJudged file place files ⊎ IsNoRecord file place files
