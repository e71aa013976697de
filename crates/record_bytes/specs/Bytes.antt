-- The bytes of a journal's records: a tag, and then the fields. Numbers have their most significant byte first.
use Rattle.std.specs.Prelude.{ℕ, List, [], ◌∷◌, ◌++◌, length}
use Rattle.std.specs.Int.{to_be_bytes, w16, w32}
use Rattle.at_base.specs.Numbers.{Numbers}
use Rattle.at_base.specs.declared.epr.Epr.{Epr}
use Rattle.at_base.specs.declared.record.Seated.{Seated}
use Rattle.at_base.specs.declared.record.Record.{Record}
use Rattle.at_base.specs.declared.record.Record.TheVariants as records

-- incarnation and counter, four bytes each
abbrev pub id_bytes : Numbers → List ℕ
id_bytes id = to_be_bytes w32 id.incarnation ++ to_be_bytes w32 id.counter

-- its length in two bytes, and the text
abbrev pub text_bytes : List ℕ → List ℕ
text_bytes text = to_be_bytes w16 (length text) ++ text

abbrev pub endpoint_bytes : Epr → List ℕ
endpoint_bytes e = text_bytes e.address ++ text_bytes e.params

-- the number in two bytes, and the participant's endpoint
abbrev pub seat_bytes : Seated → List ℕ
seat_bytes s = to_be_bytes w16 s.number ++ endpoint_bytes s.endpoint

abbrev pub each_seat : List Seated → List ℕ
each_seat [] = []
each_seat (s ∷ ss) = seat_bytes s ++ each_seat ss

-- how many in two bytes, and each
abbrev pub seats_bytes : List Seated → List ℕ
seats_bytes ss = to_be_bytes w16 (length ss) ++ each_seat ss

abbrev pub bytes_of : Record → List ℕ
bytes_of (records.Start incarnation) = 1 ∷ to_be_bytes w32 incarnation
bytes_of (records.LeafPrepared id coordinator key value) =
    2 ∷ (id_bytes id ++ (endpoint_bytes coordinator ++ (text_bytes key ++ text_bytes value)))
bytes_of (records.LeafCommitted id) = 3 ∷ id_bytes id
bytes_of (records.LeafAborted id) = 4 ∷ id_bytes id
bytes_of (records.Voted id superior seats) = 5 ∷ (id_bytes id ++ (endpoint_bytes superior ++ seats_bytes seats))
bytes_of (records.Decided id seats) = 6 ∷ (id_bytes id ++ seats_bytes seats)
bytes_of (records.SubCommitted id) = 7 ∷ id_bytes id
bytes_of (records.Ended id) = 8 ∷ id_bytes id
bytes_of (records.Done id) = 10 ∷ id_bytes id
