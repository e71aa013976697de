-- How long a record's bytes are.
use Rattle.std.proofs.Common.{ℕ, List, [], ◌∷◌, length, ◌≡◌, ◌++◌, ◌+◌, ◌*◌, ◌≤◌, false, refl, sym, ◌∙◌, ap, subst, arith, nat_eq, Some, None, cond}
use Rattle.std.specs.List.{All}
use Rattle.std.specs.Int.{from_be_bytes, to_be_bytes, w16, w32}
use Rattle.std.proofs.lemmas.List.{length-append}
use Rattle.std.proofs.lemmas.List.Elements.{All-head, All-tail}
use Rattle.at_base.specs.Numbers.{Numbers}
use Rattle.at_base.specs.WellFormed.{AreSeats, IsEndpoint, IsWellFormed}
use Rattle.at_base.specs.declared.epr.Epr.{Epr}
use Rattle.at_base.specs.declared.record.Seated.{Seated}
use Rattle.at_base.specs.declared.record.Record.{Record}
use Rattle.at_base.specs.declared.record.Record.TheVariants as records
use Rattle.journal_at.specs.Format.{IsBody, mark_of, old_mark}
use Rattle.journal_at.specs.declared.version.Version.TheVariants.{Two}
use Rattle.record_bytes.specs.Bytes.{bytes_of, each_seat, endpoint_bytes, id_bytes, seat_bytes, seats_bytes, text_bytes}
use Rattle.record_bytes.specs.Versions.{AreBodies}
use Rattle.record_bytes.proofs.NumbersAndTexts.{four, two}

id_long : (id : Numbers) → length (id_bytes id) ≡ 8
id_long id = let k = length-append (to_be_bytes w32 id.incarnation) (to_be_bytes w32 id.counter) in omega (arith, k, four id.incarnation, four id.counter)

text_long : (text : List ℕ) → length (text_bytes text) ≡ 2 + length text
text_long text = let k = length-append (to_be_bytes w16 (length text)) text in omega (arith, k, two (length text))

endpoint_long : (e : Epr) → IsEndpoint e → length (endpoint_bytes e) ≤ 2052
endpoint_long e h = let k = length-append (text_bytes e.address) (text_bytes e.params) in omega (arith, k, text_long e.address, text_long e.params, h.fits)

seat_long : (s : Seated) → IsEndpoint s.endpoint → length (seat_bytes s) ≤ 2054
seat_long s h = let k = length-append (to_be_bytes w16 s.number) (endpoint_bytes s.endpoint) in omega (arith, k, two s.number, endpoint_long s.endpoint h)

each_long : (ss : List Seated) → All (λ s. IsEndpoint s.endpoint) ss → length (each_seat ss) ≤ length ss * 2054
each_long [] h = omega arith
each_long (s ∷ ss) h =
    let k = length-append (seat_bytes s) (each_seat ss) in
    omega (arith, k, seat_long s (All-head (λ x. IsEndpoint x.endpoint) s ss h), each_long ss (All-tail (λ x. IsEndpoint x.endpoint) s ss h))

seats_long : (ss : List Seated) → AreSeats ss → length (seats_bytes ss) ≤ 1051650
seats_long ss h = let k = length-append (to_be_bytes w16 (length ss)) (each_seat ss) in omega (arith, k, two (length ss), each_long ss h.endpoints, h.most)

named_body : (tag : ℕ) (id : Numbers) → IsBody (tag ∷ id_bytes id)
named_body tag id = record { least = omega (arith, id_long id); most = omega (arith, id_long id) }

record_body : (r : Record) → IsWellFormed r → IsBody (bytes_of r)
record_body (records.Start n) h = record { least = omega (arith, four n); most = omega (arith, four n) }
record_body (records.LeafPrepared id c key value) h =
    let k1 = length-append (id_bytes id) (endpoint_bytes c ++ (text_bytes key ++ text_bytes value)) in
    let k2 = length-append (endpoint_bytes c) (text_bytes key ++ text_bytes value) in
    let k3 = length-append (text_bytes key) (text_bytes value) in
    let f = h.2.fits in
    let g = h.3.fits in
    record {
      least = omega arith;
      most = omega (arith, k1, k2, k3, id_long id, endpoint_long c h.1, text_long key, text_long value, f, g);
    }
record_body (records.LeafCommitted id) h = named_body 3 id
record_body (records.LeafAborted id) h = named_body 4 id
record_body (records.Voted id s ss) h =
    let k1 = length-append (id_bytes id) (endpoint_bytes s ++ seats_bytes ss) in
    let k2 = length-append (endpoint_bytes s) (seats_bytes ss) in
    record { least = omega arith; most = omega (arith, k1, k2, id_long id, endpoint_long s h.1, seats_long ss h.3) }
record_body (records.Decided id ss) h =
    let k1 = length-append (id_bytes id) (seats_bytes ss) in
    record { least = omega arith; most = omega (arith, k1, id_long id, seats_long ss h.1) }
record_body (records.SubCommitted id) h = named_body 7 id
record_body (records.Ended id) h = named_body 8 id
record_body (records.Done id) h = named_body 10 id

unmarked : (tag : ℕ) (rest : List ℕ) → nat_eq tag 11 ≡ false → nat_eq tag 9 ≡ false → mark_of (tag ∷ rest) ≡ None
unmarked tag [] e n = refl
unmarked tag (a ∷ []) e n = refl
unmarked tag (a ∷ b ∷ []) e n = refl
unmarked tag (a ∷ b ∷ c ∷ []) e n = refl
unmarked tag (a ∷ b ∷ c ∷ d ∷ []) e n =
    let g = from_be_bytes w32 (a ∷ b ∷ c ∷ d ∷ []) in
    λ i. cond (e i) (Some (record { version = Two; generation = g })) (cond (n i) (old_mark g) None)
unmarked tag (a ∷ b ∷ c ∷ d ∷ x ∷ rest) e n = refl

record_unmarked : (r : Record) → mark_of (bytes_of r) ≡ None
record_unmarked (records.Start n) = unmarked 1 (to_be_bytes w32 n) refl refl
record_unmarked (records.LeafPrepared id c key value) = unmarked 2 (id_bytes id ++ (endpoint_bytes c ++ (text_bytes key ++ text_bytes value))) refl refl
record_unmarked (records.LeafCommitted id) = unmarked 3 (id_bytes id) refl refl
record_unmarked (records.LeafAborted id) = unmarked 4 (id_bytes id) refl refl
record_unmarked (records.Voted id s ss) = unmarked 5 (id_bytes id ++ (endpoint_bytes s ++ seats_bytes ss)) refl refl
record_unmarked (records.Decided id ss) = unmarked 6 (id_bytes id ++ seats_bytes ss) refl refl
record_unmarked (records.SubCommitted id) = unmarked 7 (id_bytes id) refl refl
record_unmarked (records.Ended id) = unmarked 8 (id_bytes id) refl refl
record_unmarked (records.Done id) = unmarked 10 (id_bytes id) refl refl

pub are_bodies : AreBodies
are_bodies version r body h = (subst IsBody (sym h.is) (record_body r h.formed), ap mark_of h.is ∙ record_unmarked r)
