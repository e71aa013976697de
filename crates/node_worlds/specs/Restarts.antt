-- A start on files that stand for a node's records.
use Rattle.std.specs.Prelude.{ℕ, List}
use Rattle.at_base.specs.declared.record.Record.{Record}
use Rattle.journal_at.specs.declared.version.Version.{Version}
use Rattle.journal_at.specs.declared.version.Version.TheVariants.{Two}
use Rattle.site_model.specs.Told.{Files, Is, Told}
use Rattle.node_at.specs.ShrunkJournals.{AreSame}
use Rattle.node_at.specs.StartedNodes.{IsStarted}
use Rattle.node_at.specs.Starts.{IsOpen, StandFor, carried}
use Rattle.node_at.specs.State.{State}

-- The files stand for records of which those that a node goes on with make the same Kept, whatever follows.
pub record StandsFor (rs : List Record) (c : Files) : Type 0 where
  pub version : Version
  pub found : List Record
  pub stands : StandFor version found c
  pub same : AreSame (carried version found) rs

-- A node that starts on such files goes on with what stands for these records; and whatever a crash leaves of a machine whose
-- journal holds such records, and what reads give of it, are such files.
pub record RestartsOnRecords {S : Type 0} (told : S → Told) : Type 0 where
  pub starts : (base : List ℕ) (limit : ℕ) (n : State) (s t : S) (rs : List Record) (f : Files) → Is (told s).files f → StandsFor rs f
      → (start : IsStarted base limit n (told s) (told t)) → AreSame (carried start.version start.rs) rs
  pub images : (n : State) (s : S) (qs rs : List Record) → IsOpen Two qs n.journal (told s) → AreSame qs rs → (c : Files) → (told s).images c → StandsFor rs c
  pub files : (n : State) (s : S) (qs rs : List Record) → IsOpen Two qs n.journal (told s) → AreSame qs rs → (f : Files) → Is (told s).files f → StandsFor rs f
