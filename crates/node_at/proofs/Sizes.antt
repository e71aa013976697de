-- The lengths of a record's bytes.
use Rattle.std.proofs.Common.{ℕ, List, [], ◌∷◌, ◌++◌, ◌+◌, ◌*◌, ◌≡◌, ◌≢◌, ◌<◌, ◌≤◌, length, map, zero, suc, take, get_or, refl, ap, arith, rules}
use Rattle.std.proofs.lemmas.List.{length-append, take_all, take_more}
use Rattle.std.specs.Int.{to_be_bytes, w16, w32}
use Rattle.at_base.specs.Numbers.{Numbers}
use Rattle.at_base.specs.declared.epr.Epr.{Epr}
use Rattle.at_base.specs.declared.record.Seated.{Seated}
use Rattle.at_base.specs.declared.record.Record.{Record}
use Rattle.at_base.specs.declared.record.Record.TheVariants as records
use Rattle.record_bytes.specs.Bytes.{bytes_of, each_seat, endpoint_bytes, id_bytes, seat_bytes, seats_bytes, text_bytes}
use Rattle.decision_log.specs.KeptRecords.{Known}
use Rattle.decision_log.specs.ShrunkJournals.{shrunk, start_of}
use Rattle.node_at.specs.Sizes.{framed, framed_all, size_of}

two : (n : ℕ) → length (to_be_bytes w16 n) ≡ 2
two n = search rules

four : (n : ℕ) → length (to_be_bytes w32 n) ≡ 4
four n = search rules

pub text_long : (text : List ℕ) → length (text_bytes text) ≡ 2 + length text
text_long text = let k = length-append (to_be_bytes w16 (length text)) text in omega (arith, k, two (length text))

pub endpoint_long : (e : Epr) → length (endpoint_bytes e) ≡ length (text_bytes e.address) + length (text_bytes e.params)
endpoint_long e = length-append (text_bytes e.address) (text_bytes e.params)

pub seat_long : (s : Seated) → length (seat_bytes s) ≡ 2 + length (endpoint_bytes s.endpoint)
seat_long s = let k = length-append (to_be_bytes w16 s.number) (endpoint_bytes s.endpoint) in omega (arith, k, two s.number)

pub seats_long : (ss : List Seated) → length (seats_bytes ss) ≡ 2 + length (each_seat ss)
seats_long ss = let k = length-append (to_be_bytes w16 (length ss)) (each_seat ss) in omega (arith, k, two (length ss))

id_long : (id : Numbers) → length (id_bytes id) ≡ 8
id_long id = let k = length-append (to_be_bytes w32 id.incarnation) (to_be_bytes w32 id.counter) in omega (arith, k, four id.incarnation, four id.counter)

each_append : (xs ys : List Seated) → length (each_seat (xs ++ ys)) ≡ length (each_seat xs) + length (each_seat ys)
each_append [] ys = omega arith
each_append (x ∷ xs) ys =
    let k = length-append (seat_bytes x) (each_seat (xs ++ ys)) in
    let l = length-append (seat_bytes x) (each_seat xs) in
    let h = each_append xs ys in
    omega (arith, k, l, h)

one_seat : (s : Seated) → length (each_seat (s ∷ [])) ≡ length (seat_bytes s)
one_seat s = let k = length-append (seat_bytes s) (each_seat []) in omega (arith, k)

pub more_seats : (ss : List Seated) (i : ℕ) (d s : Seated) → i < length ss → s ≡ get_or ss i d
    → length (each_seat (take (i + 1) ss)) ≡ length (each_seat (take i ss)) + length (seat_bytes s)
more_seats ss i d s l e =
    let h = ap (λ z. length (each_seat z)) (take_more ss i d l) in
    let k = each_append (take i ss) (get_or ss i d ∷ []) in
    let o = one_seat (get_or ss i d) in
    let w = ap (λ z. length (seat_bytes z)) e in
    omega (arith, h, k, o, w)

pub all_seats : (ss : List Seated) (i : ℕ) → length ss ≤ i → length (each_seat (take i ss)) ≡ length (each_seat ss)
all_seats ss i l = ap (λ z. length (each_seat z)) (take_all i ss l)

pub start_long : (n : ℕ) → length (bytes_of (records.Start n)) ≡ 5
start_long n = let k = four n in omega (arith, k)

pub leaf_long : (id : Numbers) (e : Epr) (key value : List ℕ)
    → length (bytes_of (records.LeafPrepared id e key value)) ≡ 9 + (length (endpoint_bytes e) + (length (text_bytes key) + length (text_bytes value)))
leaf_long id e key value =
    let a = length-append (id_bytes id) (endpoint_bytes e ++ (text_bytes key ++ text_bytes value)) in
    let b = length-append (endpoint_bytes e) (text_bytes key ++ text_bytes value) in
    let c = length-append (text_bytes key) (text_bytes value) in
    let h = id_long id in
    omega (arith, a, b, c, h)

pub vote_long : (id : Numbers) (e : Epr) (ss : List Seated)
    → length (bytes_of (records.Voted id e ss)) ≡ 9 + (length (endpoint_bytes e) + length (seats_bytes ss))
vote_long id e ss =
    let a = length-append (id_bytes id) (endpoint_bytes e ++ seats_bytes ss) in
    let b = length-append (endpoint_bytes e) (seats_bytes ss) in
    let h = id_long id in
    omega (arith, a, b, h)

pub decision_long : (id : Numbers) (ss : List Seated) → length (bytes_of (records.Decided id ss)) ≡ 9 + length (seats_bytes ss)
decision_long id ss =
    let a = length-append (id_bytes id) (seats_bytes ss) in
    let h = id_long id in
    omega (arith, a, h)

pub named_long : (tag : ℕ) (id : Numbers) → length (tag ∷ id_bytes id) ≡ 9
named_long tag id = let h = id_long id in omega (arith, h)

pub framed_append : (xs ys : List Record) → framed_all (xs ++ ys) ≡ framed_all xs + framed_all ys
framed_append [] ys = omega arith
framed_append (x ∷ xs) ys = let h = framed_append xs ys in omega (arith, h)

pub more_records : (rs : List Record) (i : ℕ) (d r : Record) → i < length rs → r ≡ get_or rs i d
    → framed_all (take (i + 1) rs) ≡ framed_all (take i rs) + framed r
more_records rs i d r l e =
    let h = ap framed_all (take_more rs i d l) in
    let k = framed_append (take i rs) (get_or rs i d ∷ []) in
    let w = ap framed e in
    omega (arith, h, k, w)

pub all_records : (rs : List Record) (i : ℕ) → length rs ≤ i → framed_all (take i rs) ≡ framed_all rs
all_records rs i l = ap framed_all (take_all i rs l)

pub no_start : (n : ℕ) → n ≡ 0 → framed_all (start_of n) ≡ 0
no_start n e = ap (λ k. framed_all (start_of k)) e

pub a_start : (n : ℕ) → n ≢ 0 → framed_all (start_of n) ≡ 10
a_start zero h = absurd (h refl)
a_start (suc n) h = let k = start_long (suc n) in omega (arith, k)

framed_done : (id : Numbers) → framed (records.Done id) ≡ 14
framed_done id = let h = named_long 10 id in omega (arith, h)

pub outcomes_long : (ids : List Numbers) → framed_all (map records.Done ids) ≡ 14 * length ids
outcomes_long [] = omega arith
outcomes_long (id ∷ ids) = let h = framed_done id in let k = outcomes_long ids in omega (arith, h, k)

pub compacted_long : (k : Known) → size_of (shrunk k) ≡ 11 + framed_all (start_of k.start) + framed_all k.live + framed_all (map records.Done k.done)
compacted_long k =
    let a = framed_append (start_of k.start) (k.live ++ map records.Done k.done) in
    let b = framed_append k.live (map records.Done k.done) in
    omega (arith, a, b)
