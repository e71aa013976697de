-- When a node's journal is written anew, and what that leaves.
use Rattle.std.specs.Prelude.{List, Bool, true, false, ◌++◌, ◌+◌, ◌*◌, ◌≡◌, ◌≤◌, ◌<◌, ◌⊎◌, ◌↔◌}
use Rattle.at_base.specs.declared.record.Record.{Record}
use Rattle.decision_log.specs.Folds.{AreRecords}
use Rattle.decision_log.specs.KeptRecords.{kept_of}
use Rattle.decision_log.specs.ShrunkJournals.{IsCompacted, shrunk, texts_of}
use Rattle.journal_at.specs.declared.journal.Compact.{Compact}
use Rattle.journal_at.specs.declared.journal.Compact.TheVariants as compacts
use Rattle.journal_at.specs.declared.version.Version.TheVariants.{Two}
use Rattle.site_model.specs.Told.{Told, Files, Between, Elapses}
use Rattle.node_at.specs.declared.shrink.Shrunk.{Shrunk}
use Rattle.node_at.specs.declared.shrink.Shrunk.TheVariants.{NotDue, Done, Kept, NoMemory}
use Rattle.node_at.specs.Sizes.{size_of}
use Rattle.node_at.specs.Starts.{IsOpen, StandFor}
use Rattle.node_at.specs.State.{State}

-- The node hasn't halted; the live file, up to and with its last gate, has at least 65,536 bytes and at least twice as many
-- as what is kept needs; and its generation isn't the last.
pub record IsDue (n : State) : Type 0 where
  pub runs : n.halted ≡ false
  pub most : 65536 ≤ n.journal.end + 1
  pub twice : 2 * size_of (shrunk n.kept) ≤ n.journal.end + 1
  pub generation : n.journal.generation < 4294967295

-- what the end of a compaction means
abbrev pub shrunk_by : Compact → Shrunk
shrunk_by compacts.Done = Done
shrunk_by compacts.Kept = Kept
shrunk_by compacts.Unsure = NotDue
shrunk_by compacts.Full = NotDue

abbrev pub halted_by : Compact → Bool → Bool
halted_by compacts.Unsure halted = true
halted_by other halted = halted

-- What is kept was written anew, or that was tried; nothing but the journal changed. It was not even tried where the text
-- would pass the journal's limit.
pub record Anew (r : Compact) (halted : Bool) (n m : State) (old new : Told) : Type 0 where
  pub due : IsDue n
  pub full : (r ≡ compacts.Full) ↔ (n.journal.limit < size_of (shrunk n.kept))
  pub compacted : IsCompacted r (texts_of (shrunk n.kept)) n.journal m.journal old new
  pub are : AreRecords Two (shrunk n.kept) (texts_of (shrunk n.kept))
  pub same : m ≡ record n { journal = m.journal; halted = halted }
  pub limit : m.journal.limit ≡ n.journal.limit

-- It isn't due, and nothing was done; or there is no room for the text; or it may stand or not, and the node halted.
abbrev pub Shrinks : Shrunk → State → State → Told → Told → Type 0
Shrinks NotDue n m old new = ((IsDue n → ⊥) × (m ≡ n)) ⊎ (Anew compacts.Full n.halted n m old new ⊎ Anew compacts.Unsure true n m old new)
Shrinks Done n m old new = Anew compacts.Done n.halted n m old new
Shrinks Kept n m old new = Anew compacts.Kept n.halted n m old new
Shrinks NoMemory n m old new = IsDue n × (m ≡ n)

-- they make the same Kept, whatever follows
abbrev pub AreSame : List Record → List Record → Type 0
AreSame qs rs = (more : List Record) → kept_of Two (qs ++ more) ≡ kept_of Two (rs ++ more)

abbrev pub StandForSame : List Record → Files → Type 0
StandForSame rs c = (qs : List Record) × StandFor Two qs c × AreSame qs rs

-- At each moment, whatever a crash leaves, the files stand for records that make the same Kept, whatever follows; and the
-- node that goes on holds such records.
pub record Stays (rs : List Record) (m : State) (old new : Told) : Type 0 where
  pub images : (c : Files) → new.images c → StandForSame rs c
  pub time : Elapses old new (λ l c. Between old new l × StandForSame rs c)
  pub holds : m.halted ≡ false → (qs : List Record) × IsOpen Two qs m.journal new × AreSame qs rs
