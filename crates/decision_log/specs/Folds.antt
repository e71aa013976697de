-- The records of a journal that was read, and what they make of a Kept.
use Rattle.std.specs.Prelude.{ℕ, List, [], ◌∷◌, ◌++◌, ◌≡◌, Result, Ok, Err, not, if◌then◌else◌, filter, drop}
use Rattle.at_base.specs.Numbers.{Numbers}
use Rattle.at_base.specs.declared.record.Record.{Record}
use Rattle.at_base.specs.declared.record.Record.TheVariants as records
use Rattle.at_model.specs.Outcomes.{newest}
use Rattle.at_model.specs.Recovery.{ends_transaction, live, no_seats}
use Rattle.journal_at.specs.declared.read.Placed.{Placed}
use Rattle.journal_at.specs.declared.records.Records.{Records}
use Rattle.journal_at.specs.declared.version.Version.{Version}
use Rattle.journal_at.specs.declared.version.Version.TheVariants.{One, Two}
use Rattle.journal_at.specs.Frames.{bodies_of, body_of}
use Rattle.journal_at.specs.Scans.{records_in}
use Rattle.record_bytes.specs.Versions.{IsRecord}
use Rattle.decision_log.specs.declared.fold.FoldFault.{FoldFault}
use Rattle.decision_log.specs.declared.fold.FoldFault.TheVariants.{NoMemory, Bad}
use Rattle.decision_log.specs.declared.fold.Folding.{Folding}
use Rattle.decision_log.specs.declared.kept.Kept.{Kept}
use Rattle.decision_log.specs.KeptState.{known}
use Rattle.decision_log.specs.KeptRecords.{Known, after, decided_in, kept_of}

-- each body is the record in its place
abbrev pub AreRecords : Version → List Record → List (List ℕ) → Type 0
AreRecords version [] [] = Unit {0}
AreRecords version [] (body ∷ bodies) = ⊥
AreRecords version (r ∷ rs) [] = ⊥
AreRecords version (r ∷ rs) (body ∷ bodies) = IsRecord version r body × AreRecords version rs bodies

-- the records that were read, each with the place of its gate
abbrev pub placed_in : Records → List Placed
placed_in rs = drop rs.start rs.items.items

pub record IsFolded (version : Version) (bodies : List (List ℕ)) (k : Known) : Type 0 where
  pub all : List Record
  pub are : AreRecords version all bodies
  pub is : k ≡ kept_of version all

-- the first that is no record of its version, by the place of its gate
pub record IsBadAt (version : Version) (placed : List Placed) (place : ℕ) : Type 0 where
  pub front : List Placed
  pub item : Placed
  pub rest : List Placed
  pub is : placed ≡ front ++ item ∷ rest
  pub before : List Record
  pub are : AreRecords version before (bodies_of front)
  pub none : (r : Record) → IsRecord version r (body_of item) → ⊥
  pub at : place ≡ item.gate

abbrev pub Folds : Result Kept FoldFault → Records → Type 0
Folds (Ok k) rs = IsFolded rs.version (records_in rs) (known k)
Folds (Err NoMemory) rs = Unit {0}
Folds (Err (Bad place)) rs = IsBadAt rs.version (placed_in rs) place

-- The decisions that are live, in the order of the journal, one record after the other.
abbrev pub newly_decided : Record → List Numbers
newly_decided (records.Decided id seats) = if no_seats seats then [] else id ∷ []
newly_decided other = []

abbrev pub still_decided : Record → List Numbers → List Numbers
still_decided r ids = filter (λ id. not (ends_transaction id r)) ids

abbrev pub decided_after : Record → List Numbers → List Numbers
decided_after r ids = still_decided r ids ++ newly_decided r

-- so many were read
pub record AreFolded (version : Version) (bodies : List (List ℕ)) (f : Folding) : Type 0 where
  pub all : List Record
  pub are : AreRecords version all bodies
  pub kept : known f.kept ≡ kept_of Two all
  pub decided : f.decided.items ≡ decided_in (live all)

-- one more
pub record Takes (version : Version) (body : List ℕ) (old new : Folding) : Type 0 where
  pub r : Record
  pub is : IsRecord version r body
  pub kept : known new.kept ≡ after r (known old.kept)
  pub decided : new.decided.items ≡ decided_after r old.decided.items

abbrev pub TakesOne : Result (Unit {0}) FoldFault → Version → Placed → Folding → Folding → Type 0
TakesOne (Ok x) version placed old new = Takes version (body_of placed) old new
TakesOne (Err NoMemory) version placed old new = Unit {0}
TakesOne (Err (Bad place)) version placed old new = ((r : Record) → IsRecord version r (body_of placed) → ⊥) × (place ≡ placed.gate)

abbrev pub FoldsAll : Result Folding FoldFault → Version → List Placed → Type 0
FoldsAll (Ok f) version placed = AreFolded version (bodies_of placed) f
FoldsAll (Err NoMemory) version placed = Unit {0}
FoldsAll (Err (Bad place)) version placed = IsBadAt version placed place

-- The outcomes of version 1 are taken of the live decisions.
abbrev pub Finishes : Version → Folding → Kept → Type 0
Finishes Two f k = known k ≡ known f.kept
Finishes One f k = known k ≡ record { live = (known f.kept).live; start = (known f.kept).start; done = newest f.decided.items }
