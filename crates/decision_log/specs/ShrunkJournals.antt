-- The records that a journal comes to when its dead ones are left out.
use Rattle.std.specs.Prelude.{ℕ, List, [], ◌∷◌, ◌++◌, ◌+◌, ◌≤◌, ◌<◌, ◌≡◌, ◌↔◌, true, false, zero, suc, length, map}
use Rattle.at_base.specs.declared.record.Record.{Record}
use Rattle.at_base.specs.declared.record.Record.TheVariants as records
use Rattle.site_model.specs.Told.{Told}
use Rattle.journal_at.specs.declared.journal.Compact.{Compact}
use Rattle.journal_at.specs.declared.journal.Compact.TheVariants as compacts
use Rattle.journal_at.specs.declared.journal.Journal.{Journal}
use Rattle.journal_at.specs.declared.version.Version.TheVariants.{One, Two}
use Rattle.journal_at.specs.declared.body.Body.{Body}
use Rattle.journal_at.specs.Compactions.{Compacted, HasGround, Moves, text_of, texts_in}
use Rattle.journal_at.specs.Format.{frames, mark_body}
use Rattle.journal_at.specs.StandingBodies.{Keeps}
use Rattle.record_bytes.specs.Bytes.{bytes_of}
use Rattle.decision_log.specs.Folds.{AreRecords}
use Rattle.decision_log.specs.KeptRecords.{Known, kept_of}

-- none where no incarnation is known
abbrev pub start_of : ℕ → List Record
start_of zero = []
start_of (suc n) = records.Start (suc n) ∷ []

-- A Start of the last incarnation, the live records by rising id, and the outcomes, the newest last.
abbrev pub shrunk : Known → List Record
shrunk k = start_of k.start ++ (k.live ++ map records.Done k.done)

-- They make the same Kept, whatever follows.
pub record ShrinksTheSame : Type 0 where
  pub same : (rs : List Record) → kept_of Two (shrunk (kept_of Two rs)) ≡ kept_of Two rs
  pub followed : (rs more : List Record) → kept_of Two (shrunk (kept_of Two rs) ++ more) ≡ kept_of Two (rs ++ more)
  pub migrated : (rs : List Record) → kept_of Two (shrunk (kept_of One rs)) ≡ kept_of One rs

-- these bodies were written anew, where the live file has a body
pub record IsCompacted (result : Compact) (texts : List (List ℕ)) (before after : Journal) (old new : Told) : Type 0 where
  pub compacted : (kept : List (List ℕ)) → before.unsure ≡ false → Keeps before kept old → 1 ≤ before.end → Compacted result before.live kept (mark_body (before.generation + 1) ∷ texts) after old new
  pub moves : before.unsure ≡ false → Moves result (text_of (before.generation + 1) texts) before after old new
  pub ground : HasGround result before old new
  pub full : (result ≡ compacts.Full) ↔ ((before.unsure ≡ false) × (before.limit < length (frames (mark_body (before.generation + 1) ∷ texts)) + 1))
  pub unsure : (after.unsure ≡ true) ↔ (result ≡ compacts.Unsure)
  pub stuck : before.unsure ≡ true → result ≡ compacts.Unsure

abbrev pub texts_of : List Record → List (List ℕ)
texts_of rs = map bytes_of rs

-- each body is the record in its place
abbrev pub AreTexts : List Record → List Body → Type 0
AreTexts rs bodies = AreRecords Two rs (texts_in bodies)

-- the bodies of these records stand behind the others
pub record Adds (more : List Record) (old new : List Body) : Type 0 where
  pub on : (rs : List Record) → AreTexts rs old → AreTexts (rs ++ more) new
