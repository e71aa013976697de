-- A recovered book has what its records have.
use Rattle.std.specs.Prelude.{ℕ, List, [], ◌∷◌, Bool, true, false, map}
use Rattle.std.specs.List.{AllByRecursion, list_any}
use Rattle.std.proofs.Common.{arith}
use Rattle.at_base.specs.IdText.{IsId}
use Rattle.at_base.specs.Numbers.{Numbers}
use Rattle.at_base.specs.declared.epr.Epr.{Epr}
use Rattle.at_base.specs.declared.record.Record.{Record}
use Rattle.at_base.specs.declared.record.Record.TheVariants as records
use Rattle.at_base.specs.declared.record.Seated.{Seated}
use Rattle.at_tables.specs.declared.cells.State.{State}
use Rattle.at_tables.specs.declared.cells.State.TheVariants as states
use Rattle.at_model.specs.Book.{leaf_id, transaction_id}
use Rattle.at_model.specs.Recovery.{is_sub_committed, leaves_of, live, recovered_decided, recovered_seat, recovered_superior, recovered_voted, transactions_of}
use Rattle.model_laws.proofs.DrawnIds.{all_in_order, all_live}
use Rattle.provenance.specs.Forms.{Forms, IsLeaf, IsRecord, IsSeat, IsSeated, IsSuperior, IsTransaction}
use Rattle.provenance.specs.Provenance.{RecoveryPassesOn}

seats_have : (F : Forms) (id : Numbers) (state : State) (seats : List Seated) → IsId id → AllByRecursion (IsSeated F) seats → AllByRecursion (IsSeat F id) (map (recovered_seat state) seats)
seats_have F id state [] i h = tt
seats_have F id state (s ∷ ss) i (h, k) = (record { number = (i, h.least, h.most); participant = h.endpoint }, seats_have F id state ss i k)

superior_has : (F : Forms) (state : State) (superior : Epr) → F.endpoint superior → IsSuperior F [] (recovered_superior state superior)
superior_has F state superior h = record { volatile = tt; durable = h; request = tt }

voted_has : (F : Forms) (id : Numbers) (superior : Epr) (seats : List Seated) (committed : Bool) → IsId id → F.endpoint superior → AllByRecursion (IsSeated F) seats
    → IsTransaction F (recovered_voted id superior seats committed)
voted_has F id superior seats true i s h =
    record { id = i; superior = superior_has F states.Committing superior s; seats = seats_have F id states.Committing seats i h; completion = tt }
voted_has F id superior seats false i s h =
    record { id = i; superior = superior_has F states.PreparedSuccess superior s; seats = seats_have F id states.Prepared seats i h; completion = tt }

decided_has : (F : Forms) (base : List ℕ) (id : Numbers) (seats : List Seated) → IsId id → AllByRecursion (IsSeated F) seats → IsTransaction F (recovered_decided base id seats)
decided_has F base id seats i h = record { id = i; superior = tt; seats = seats_have F id states.Committing seats i h; completion = tt }

transactions_have : (F : Forms) (base : List ℕ) (rs : List Record) → AllByRecursion (IsRecord F) rs → AllByRecursion (IsTransaction F) (transactions_of base rs)
transactions_have F base [] h = tt
transactions_have F base (records.Voted id superior seats ∷ rest) ((i, s, a), k) =
    (voted_has F id superior seats (list_any (is_sub_committed id) rest) i s a, transactions_have F base rest k)
transactions_have F base (records.Decided id seats ∷ rest) ((i, a), k) = (decided_has F base id seats i a, transactions_have F base rest k)
transactions_have F base (records.Start incarnation ∷ rest) (h, k) = transactions_have F base rest k
transactions_have F base (records.LeafPrepared id coordinator key value ∷ rest) (h, k) = transactions_have F base rest k
transactions_have F base (records.LeafCommitted id ∷ rest) (h, k) = transactions_have F base rest k
transactions_have F base (records.LeafAborted id ∷ rest) (h, k) = transactions_have F base rest k
transactions_have F base (records.SubCommitted id ∷ rest) (h, k) = transactions_have F base rest k
transactions_have F base (records.Ended id ∷ rest) (h, k) = transactions_have F base rest k
transactions_have F base (records.Done id ∷ rest) (h, k) = transactions_have F base rest k

leaves_have : (F : Forms) (rs : List Record) → AllByRecursion (IsRecord F) rs → AllByRecursion (IsLeaf F) (leaves_of rs)
leaves_have F [] h = tt
leaves_have F (records.LeafPrepared id coordinator key value ∷ rest) ((i, c, x, v), k) = (record { id = i; coordinator = c; key = x; value = v; request = tt }, leaves_have F rest k)
leaves_have F (records.Voted id superior seats ∷ rest) (h, k) = leaves_have F rest k
leaves_have F (records.Decided id seats ∷ rest) (h, k) = leaves_have F rest k
leaves_have F (records.Start incarnation ∷ rest) (h, k) = leaves_have F rest k
leaves_have F (records.LeafCommitted id ∷ rest) (h, k) = leaves_have F rest k
leaves_have F (records.LeafAborted id ∷ rest) (h, k) = leaves_have F rest k
leaves_have F (records.SubCommitted id ∷ rest) (h, k) = leaves_have F rest k
leaves_have F (records.Ended id ∷ rest) (h, k) = leaves_have F rest k
leaves_have F (records.Done id ∷ rest) (h, k) = leaves_have F rest k

pub recovery_passes_on : (F : Forms) → RecoveryPassesOn F
recovery_passes_on F base rs h least most =
    let all : AllByRecursion (IsRecord F) (live rs) = all_live (IsRecord F) rs (λ id superior seats k. tt) h in
    record {
      incarnation_least = least;
      incarnation_most = omega (arith, most);
      transactions = all_in_order (IsTransaction F) transaction_id (transactions_of base (live rs)) (transactions_have F base (live rs) all);
      leaves = all_in_order (IsLeaf F) leaf_id (leaves_of (live rs)) (leaves_have F (live rs) all);
      activities = tt;
    }
