-- What a journal comes to when its dead records are left out.
use Rattle.std.specs.Prelude.{ℕ, List, [], ◌∷◌, ◌++◌, map, codes, ◌≡◌, refl}
use Rattle.at_base.specs.Numbers.{Numbers}
use Rattle.at_base.specs.declared.epr.Epr.{Epr}
use Rattle.at_base.specs.declared.record.Record.{Record}
use Rattle.at_base.specs.declared.record.Record.TheVariants as records
use Rattle.at_model.specs.Outcomes.{outcomes_after}
use Rattle.at_model.specs.Recovery.{in_order, last_incarnation, live, recover}

-- the id that a record is about; a Start is about none
abbrev pub record_id : Record → Numbers
record_id (records.Start incarnation) = record { incarnation = incarnation; counter = 0 }
record_id (records.LeafPrepared id coordinator key value) = id
record_id (records.LeafCommitted id) = id
record_id (records.LeafAborted id) = id
record_id (records.Voted id superior seats) = id
record_id (records.Decided id seats) = id
record_id (records.SubCommitted id) = id
record_id (records.Ended id) = id
record_id (records.Done id) = id

-- A Start of the last incarnation, the live records by rising id, a SubCommitted behind its Voted; and the kept outcomes.
abbrev pub compacted : List Record → List Record
compacted rs = records.Start (last_incarnation rs) ∷ (in_order record_id (live rs) ++ map records.Done (outcomes_after [] rs))

-- The compacted records stand for the same book, and none of them is dead but the Start and the outcomes.
pub record RecoversTheCompacted : Type 0 where
  pub book : (base : List ℕ) (rs : List Record) → recover base (compacted rs) ≡ recover base rs
  pub live : (rs : List Record) → live (compacted rs) ≡ in_order record_id (live rs)

-- Two incarnations: the ended leaf goes, and the vote of the second stands behind the leaf of the first.
abbrev first : Numbers
first = record { incarnation = 1; counter = 1 }

abbrev ended : Numbers
ended = record { incarnation = 1; counter = 2 }

abbrev second : Numbers
second = record { incarnation = 2; counter = 1 }

abbrev superior : Epr
superior = record { address = codes "http://n1.example/c/d/1-1/1"; params = [] }

pub compacts_two_incarnations :
    compacted
    (records.Start 1 ∷ records.LeafPrepared ended superior (codes "k") (codes "v") ∷ records.Start 2 ∷ records.Voted second superior []
    ∷ records.LeafPrepared first superior (codes "k") (codes "v") ∷ records.LeafCommitted ended ∷ records.SubCommitted second ∷ [])
    ≡ records.Start 2 ∷ records.LeafPrepared first superior (codes "k") (codes "v") ∷ records.Voted second superior [] ∷ records.SubCommitted second ∷ []
compacts_two_incarnations = refl
