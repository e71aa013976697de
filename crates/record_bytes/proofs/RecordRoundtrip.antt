-- What is written is read back, with anything behind it.
use Rattle.std.proofs.Common.{ℕ, suc, List, [], ◌∷◌, length, ◌≡◌, ◌++◌, ◌<◌, ◌≤◌, ◌^◌, ◌&&◌, true, refl, sym, ◌∙◌, ap, arith, rules, nat_le, Option, Some, None, cond}
use Rattle.std.specs.Int.{to_be_bytes, w16, w32}
use Rattle.std.specs.Str.{IsUtf8}
use Rattle.std.proofs.lemmas.List.{append_assoc, append-nil, length-append, take_at, drop_at}
use Rattle.std.proofs.lemmas.Nat.{from_be_bytes-to_be_bytes_2, from_be_bytes-to_be_bytes_4}
use Rattle.std.proofs.lemmas.List.Elements.{All-head, All-tail}
use Rattle.std.specs.List.{All}
use Rattle.at_base.specs.IdText.{IsId}
use Rattle.at_base.specs.WellFormed.{AreSeats, IsEndpoint, IsField, IsWellFormed}
use Rattle.at_base.specs.Numbers.{Numbers}
use Rattle.at_base.specs.declared.epr.Epr.{Epr}
use Rattle.at_base.specs.declared.record.Seated.{Seated}
use Rattle.at_base.specs.declared.record.Record.{Record}
use Rattle.at_base.specs.declared.record.Record.TheVariants as records
use Rattle.record_bytes.specs.Bytes.{bytes_of, each_seat, endpoint_bytes, id_bytes, seat_bytes, seats_bytes, text_bytes}
use Rattle.record_bytes.specs.Versions.{AreTypedSeats, IsTyped, IsTypedEndpoint, IsTypedSeat}
use Rattle.record_bytes.specs.RecordReaders.{decision_in, each_in, endpoint_in, fields_in, id_if, id_in, leaf_in, letters_in, named, named_in, record_in, seat_in, seats_in, short_in, start_in, text_in, vote_in, whole, word_in, ◌>>=◌}
use Rattle.record_bytes.proofs.NumbersAndTexts.{four, is_short, is_text, is_word, two}

goes : {A B : Type 0} (o : Option A) (x : A) (next : A → Option B) → o ≡ Some x → (o >>= next) ≡ next x
goes o x next e = ap (λ z. z >>= next) e

pub short_back : (n : ℕ) (rest : List ℕ) → n < 2 ^ 16 → short_in (to_be_bytes w16 n ++ rest) ≡ Some (n, rest)
short_back n rest l =
    let front = to_be_bytes w16 n in
    is_short (front ++ rest) front rest n (sym (take_at front rest 2 (two n))) (sym (drop_at front rest 2 (two n))) (sym (from_be_bytes-to_be_bytes_2 n l)) l refl

pub word_back : (n : ℕ) (rest : List ℕ) → n < 2 ^ 32 → word_in (to_be_bytes w32 n ++ rest) ≡ Some (n, rest)
word_back n rest l =
    let front = to_be_bytes w32 n in
    is_word (front ++ rest) front rest n (sym (take_at front rest 4 (four n))) (sym (drop_at front rest 4 (four n))) (sym (from_be_bytes-to_be_bytes_4 n l)) l refl

pub id_back : (id : Numbers) (rest : List ℕ) → IsId id → id_in (id_bytes id ++ rest) ≡ Some (id, rest)
unfolding id_in
id_back id rest h =
    let i = to_be_bytes w32 id.incarnation in
    let c = to_be_bytes w32 id.counter in
    let first : nat_le 1 id.incarnation ≡ true = search (rules, h.incarnation_least) in
    let second : nat_le 1 id.counter ≡ true = search (rules, h.counter_least) in
    ap id_in (append_assoc i c rest)
    ∙ goes _ _ (λ x. word_in x.1 >>= (λ y. id_if x.0 y.0 y.1)) (word_back id.incarnation (c ++ rest) h.incarnation_most)
    ∙ goes _ _ (λ y. id_if id.incarnation y.0 y.1) (word_back id.counter rest h.counter_most)
    ∙ (λ k. cond (first k && second k) (Some (record { incarnation = id.incarnation; counter = id.counter }, rest)) None)

pub text_back : (text rest : List ℕ) → length text < 2 ^ 16 → IsUtf8 text → text_in (text_bytes text ++ rest) ≡ Some (text, rest)
unfolding text_in
text_back text rest l u =
    let n = to_be_bytes w16 (length text) in
    let long : length text ≤ length (text ++ rest) = let k = length-append text rest in omega (arith, k) in
    ap text_in (append_assoc n text rest)
    ∙ goes _ _ (λ x. letters_in x.0 x.1) (short_back (length text) (text ++ rest) l)
    ∙ is_text (length text) (text ++ rest) text rest text long (sym (take_at text rest (length text) refl)) (sym (drop_at text rest (length text) refl)) refl u

pub endpoint_back : (e : Epr) (rest : List ℕ) → IsEndpoint e → IsTypedEndpoint e → endpoint_in (endpoint_bytes e ++ rest) ≡ Some (e, rest)
unfolding endpoint_in
endpoint_back e rest h t =
    let a = text_bytes e.address in
    let p = text_bytes e.params in
    ap endpoint_in (append_assoc a p rest)
    ∙ goes _ _ (λ x. text_in x.1 >>= (λ y. Some (record { address = x.0; params = y.0 }, y.1))) (text_back e.address (p ++ rest) (omega (arith, h.fits)) t.0)
    ∙ goes _ _ (λ y. Some (record { address = e.address; params = y.0 }, y.1)) (text_back e.params rest (omega (arith, h.fits)) t.1)

pub seat_back : (s : Seated) (rest : List ℕ) → IsEndpoint s.endpoint → IsTypedSeat s → seat_in (seat_bytes s ++ rest) ≡ Some (s, rest)
unfolding seat_in
seat_back s rest h t =
    let n = to_be_bytes w16 s.number in
    let e = endpoint_bytes s.endpoint in
    ap seat_in (append_assoc n e rest)
    ∙ goes _ _ (λ x. endpoint_in x.1 >>= (λ y. Some (record { number = x.0; endpoint = y.0 }, y.1))) (short_back s.number (e ++ rest) t.0)
    ∙ goes _ _ (λ y. Some (record { number = s.number; endpoint = y.0 }, y.1)) (endpoint_back s.endpoint rest h t.1)

pub each_back : (ss : List Seated) (rest : List ℕ) → All (λ s. IsEndpoint s.endpoint) ss → AreTypedSeats ss → each_in (length ss) (each_seat ss ++ rest) ≡ Some (ss, rest)
each_back [] rest h t = refl
each_back (s ∷ ss) rest h t =
    let more = each_seat ss in
    ap (λ b. each_in (suc (length ss)) b) (append_assoc (seat_bytes s) more rest)
    ∙ goes _ _ (λ x. each_in (length ss) x.1 >>= (λ y. Some (x.0 ∷ y.0, y.1))) (seat_back s (more ++ rest) (All-head (λ x. IsEndpoint x.endpoint) s ss h) t.0)
    ∙ goes _ _ (λ y. Some (s ∷ y.0, y.1)) (each_back ss rest (All-tail (λ x. IsEndpoint x.endpoint) s ss h) t.1)

pub seats_back : (ss : List Seated) (rest : List ℕ) → AreSeats ss → AreTypedSeats ss → seats_in (seats_bytes ss ++ rest) ≡ Some (ss, rest)
unfolding seats_in
seats_back ss rest h t =
    let n = to_be_bytes w16 (length ss) in
    ap seats_in (append_assoc n (each_seat ss) rest)
    ∙ goes _ _ (λ x. each_in x.0 x.1) (short_back (length ss) (each_seat ss ++ rest) (omega (arith, h.most)))
    ∙ each_back ss rest h.endpoints t

short_field : (text : List ℕ) → IsField text → length text < 2 ^ 16
short_field text h = omega (arith, h.fits)

pub leaf_back : (id : Numbers) (c : Epr) (key value rest : List ℕ) → IsWellFormed (records.LeafPrepared id c key value) → IsTyped (records.LeafPrepared id c key value)
    → leaf_in ((id_bytes id ++ (endpoint_bytes c ++ (text_bytes key ++ text_bytes value))) ++ rest) ≡ Some (records.LeafPrepared id c key value, rest)
unfolding leaf_in
leaf_back id c key value rest h t =
    let i = id_bytes id in
    let e = endpoint_bytes c in
    let k = text_bytes key in
    let v = text_bytes value in
    ap leaf_in (append_assoc i (e ++ (k ++ v)) rest ∙ ap (λ b. i ++ b) (append_assoc e (k ++ v) rest ∙ ap (λ b. e ++ b) (append_assoc k v rest)))
    ∙ goes _ _ (λ x. endpoint_in x.1 >>= (λ y. text_in y.1 >>= (λ z. text_in z.1 >>= (λ w. Some (records.LeafPrepared x.0 y.0 z.0 w.0, w.1))))) (id_back id (e ++ (k ++ (v ++ rest))) h.0)
    ∙ goes _ _ (λ y. text_in y.1 >>= (λ z. text_in z.1 >>= (λ w. Some (records.LeafPrepared id y.0 z.0 w.0, w.1)))) (endpoint_back c (k ++ (v ++ rest)) h.1 t.0)
    ∙ goes _ _ (λ z. text_in z.1 >>= (λ w. Some (records.LeafPrepared id c z.0 w.0, w.1))) (text_back key (v ++ rest) (short_field key h.2) t.1)
    ∙ goes _ _ (λ w. Some (records.LeafPrepared id c key w.0, w.1)) (text_back value rest (short_field value h.3) t.2)

pub vote_back : (id : Numbers) (s : Epr) (ss : List Seated) (rest : List ℕ) → IsWellFormed (records.Voted id s ss) → IsTyped (records.Voted id s ss)
    → vote_in ((id_bytes id ++ (endpoint_bytes s ++ seats_bytes ss)) ++ rest) ≡ Some (records.Voted id s ss, rest)
unfolding vote_in
vote_back id s ss rest h t =
    let i = id_bytes id in
    let e = endpoint_bytes s in
    let l = seats_bytes ss in
    ap vote_in (append_assoc i (e ++ l) rest ∙ ap (λ b. i ++ b) (append_assoc e l rest))
    ∙ goes _ _ (λ x. endpoint_in x.1 >>= (λ y. seats_in y.1 >>= (λ z. Some (records.Voted x.0 y.0 z.0, z.1)))) (id_back id (e ++ (l ++ rest)) h.0)
    ∙ goes _ _ (λ y. seats_in y.1 >>= (λ z. Some (records.Voted id y.0 z.0, z.1))) (endpoint_back s (l ++ rest) h.1 t.0)
    ∙ goes _ _ (λ z. Some (records.Voted id s z.0, z.1)) (seats_back ss rest h.3 t.1)

pub decision_back : (id : Numbers) (ss : List Seated) (rest : List ℕ) → IsWellFormed (records.Decided id ss) → IsTyped (records.Decided id ss)
    → decision_in ((id_bytes id ++ seats_bytes ss) ++ rest) ≡ Some (records.Decided id ss, rest)
unfolding decision_in
decision_back id ss rest h t =
    let i = id_bytes id in
    let l = seats_bytes ss in
    ap decision_in (append_assoc i l rest)
    ∙ goes _ _ (λ x. seats_in x.1 >>= (λ z. Some (records.Decided x.0 z.0, z.1))) (id_back id (l ++ rest) h.0)
    ∙ goes _ _ (λ z. Some (records.Decided id z.0, z.1)) (seats_back ss rest h.1 t)

start_back : (incarnation : ℕ) (rest : List ℕ) → incarnation < 2 ^ 32 → start_in (to_be_bytes w32 incarnation ++ rest) ≡ Some (records.Start incarnation, rest)
unfolding start_in
start_back n rest l = goes _ _ (λ x. Some (records.Start x.0, x.1)) (word_back n rest l)

named_back : (tag : ℕ) (id : Numbers) (r : Record) (rest : List ℕ) → named tag id ≡ Some r → IsId id → named_in tag (id_bytes id ++ rest) ≡ Some (r, rest)
unfolding named_in
named_back tag id r rest e h =
    goes _ _ (λ x. named tag x.0 >>= (λ y. Some (y, x.1))) (id_back id rest h)
    ∙ goes _ _ (λ y. Some (y, rest)) e

ends : (tag : ℕ) (bytes : List ℕ) (r : Record) → fields_in tag (bytes ++ []) ≡ Some (r, []) → record_in (tag ∷ bytes) ≡ Some r
unfolding record_in
ends tag bytes r e = ap whole (ap (fields_in tag) (sym (append-nil bytes)) ∙ e)

pub record_back : (r : Record) → IsWellFormed r → IsTyped r → record_in (bytes_of r) ≡ Some r
unfolding fields_in
record_back (records.Start n) h t = ends 1 _ _ (start_back n [] t)
record_back (records.LeafPrepared id c key value) h t = ends 2 _ _ (leaf_back id c key value [] h t)
record_back (records.LeafCommitted id) h t = ends 3 _ _ (named_back 3 id _ [] refl h)
record_back (records.LeafAborted id) h t = ends 4 _ _ (named_back 4 id _ [] refl h)
record_back (records.Voted id s ss) h t = ends 5 _ _ (vote_back id s ss [] h t)
record_back (records.Decided id ss) h t = ends 6 _ _ (decision_back id ss [] h t)
record_back (records.SubCommitted id) h t = ends 7 _ _ (named_back 7 id _ [] refl h)
record_back (records.Ended id) h t = ends 8 _ _ (named_back 8 id _ [] refl h)
record_back (records.Done id) h t = ends 10 _ _ (named_back 10 id _ [] refl h)
