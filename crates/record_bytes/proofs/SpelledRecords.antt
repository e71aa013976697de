-- What is read of endpoints, seats and records stands there as it is written.
use Rattle.std.proofs.Common.{ℕ, zero, suc, List, [], ◌∷◌, length, ◌≡◌, ◌++◌, ◌⊎◌, inl, inr, true, false, refl, sym, ◌∙◌, ap, subst, rules, nat_eq, Some, None, cond}
use Rattle.std.specs.Int.{to_be_bytes, w16, w32}
use Rattle.std.proofs.lemmas.List.{append_assoc, append-nil}
use Rattle.at_base.specs.Numbers.{Numbers}
use Rattle.at_base.specs.declared.epr.Epr.{Epr}
use Rattle.at_base.specs.declared.record.Seated.{Seated}
use Rattle.at_base.specs.declared.record.Record.{Record}
use Rattle.at_base.specs.declared.record.Record.TheVariants as records
use Rattle.record_bytes.specs.Bytes.{bytes_of, each_seat, endpoint_bytes, id_bytes, seat_bytes, seats_bytes, text_bytes}
use Rattle.record_bytes.specs.Versions.{AreTypedSeats, IsTyped, IsTypedEndpoint, IsTypedSeat}
use Rattle.record_bytes.specs.RecordReaders.{Taken, decision_in, each_in, endpoint_in, fields_in, id_in, leaf_in, named, named_in, record_in, seat_in, seats_in, short_in, start_in, text_in, vote_in, whole, word_in, ◌>>=◌}
use Rattle.record_bytes.proofs.SpelledParts.{either, id_spelled, parts, same, short_spelled, some_is, text_spelled, word_spelled}

pub endpoint_spelled : (bytes : List ℕ) (e : Epr) (rest : List ℕ) → endpoint_in bytes ≡ Some (e, rest) → IsTypedEndpoint e × (bytes ≡ endpoint_bytes e ++ rest)
unfolding endpoint_in
endpoint_spelled bytes e rest h =
    let (a, first, h1) = parts (text_in bytes) (λ x. text_in x.1 >>= (λ y. Some (record { address = x.0; params = y.0 }, y.1))) (e, rest) h in
    let (p, second, h2) = parts (text_in a.1) (λ y. Some (record { address = a.0; params = y.0 }, y.1)) (e, rest) h1 in
    let k = same (record { address = a.0; params = p.0 }) e p.1 rest h2 in
    let s = text_spelled bytes a.0 a.1 first in
    let t = text_spelled a.1 p.0 p.1 second in (
      subst IsTypedEndpoint k.0 (s.utf8, t.utf8),
      s.is ∙ ap (λ b. text_bytes a.0 ++ b) t.is ∙ sym (append_assoc (text_bytes a.0) (text_bytes p.0) p.1) ∙ (λ i. endpoint_bytes (k.0 i) ++ k.1 i),
    )

pub seat_spelled : (bytes : List ℕ) (s : Seated) (rest : List ℕ) → seat_in bytes ≡ Some (s, rest) → IsTypedSeat s × (bytes ≡ seat_bytes s ++ rest)
unfolding seat_in
seat_spelled bytes s rest h =
    let (n, first, h1) = parts (short_in bytes) (λ x. endpoint_in x.1 >>= (λ y. Some (record { number = x.0; endpoint = y.0 }, y.1))) (s, rest) h in
    let (e, second, h2) = parts (endpoint_in n.1) (λ y. Some (record { number = n.0; endpoint = y.0 }, y.1)) (s, rest) h1 in
    let k = same (record { number = n.0; endpoint = e.0 }) s e.1 rest h2 in
    let p = short_spelled bytes n.0 n.1 first in
    let t = endpoint_spelled n.1 e.0 e.1 second in (
      subst IsTypedSeat k.0 (p.fits, t.0),
      p.is ∙ ap (λ b. to_be_bytes w16 n.0 ++ b) t.1 ∙ sym (append_assoc (to_be_bytes w16 n.0) (endpoint_bytes e.0) e.1) ∙ (λ i. seat_bytes (k.0 i) ++ k.1 i),
    )

pub record AreSpelled (n : ℕ) (ss : List Seated) (rest bytes : List ℕ) : Type 0 where
  pub count : length ss ≡ n
  pub typed : AreTypedSeats ss
  pub is : bytes ≡ each_seat ss ++ rest

pub each_spelled : (n : ℕ) (bytes : List ℕ) (ss : List Seated) (rest : List ℕ) → each_in n bytes ≡ Some (ss, rest) → AreSpelled n ss rest bytes
each_spelled zero bytes ss rest h =
    let k = same [] ss bytes rest h in
    record { count = sym (ap length k.0); typed = subst AreTypedSeats k.0 tt; is = λ i. each_seat (k.0 i) ++ k.1 i }
each_spelled (suc n) bytes ss rest h =
    let (s, first, h1) = parts (seat_in bytes) (λ x. each_in n x.1 >>= (λ y. Some (x.0 ∷ y.0, y.1))) (ss, rest) h in
    let (m, second, h2) = parts (each_in n s.1) (λ y. Some (s.0 ∷ y.0, y.1)) (ss, rest) h1 in
    let k = same (s.0 ∷ m.0) ss m.1 rest h2 in
    let p = seat_spelled bytes s.0 s.1 first in
    let t = each_spelled n s.1 m.0 m.1 second in
    record {
      count = sym (ap length k.0) ∙ ap suc t.count;
      typed = subst AreTypedSeats k.0 (p.0, t.typed);
      is = p.1 ∙ ap (λ b. seat_bytes s.0 ++ b) t.is ∙ sym (append_assoc (seat_bytes s.0) (each_seat m.0) m.1) ∙ (λ i. each_seat (k.0 i) ++ k.1 i);
    }

pub seats_spelled : (bytes : List ℕ) (ss : List Seated) (rest : List ℕ) → seats_in bytes ≡ Some (ss, rest) → AreTypedSeats ss × (bytes ≡ seats_bytes ss ++ rest)
unfolding seats_in
seats_spelled bytes ss rest h =
    let (n, first, h1) = parts (short_in bytes) (λ x. each_in x.0 x.1) (ss, rest) h in
    let t = each_spelled n.0 n.1 ss rest h1 in
    (t.typed, (short_spelled bytes n.0 n.1 first).is ∙ (λ i. to_be_bytes w16 (sym t.count i) ++ t.is i) ∙ sym (append_assoc (to_be_bytes w16 (length ss)) (each_seat ss) rest))

-- a tag, and what stands behind it
pub record IsWritten (tag : ℕ) (r : Record) (rest bytes : List ℕ) : Type 0 where
  pub typed : IsTyped r
  pub is : tag ∷ bytes ≡ bytes_of r ++ rest

written : (tag : ℕ) (front bytes more rest : List ℕ) (q r : Record) → IsTyped q → tag ∷ front ≡ bytes_of q → bytes ≡ front ++ more → (q ≡ r) × (more ≡ rest) → IsWritten tag r rest bytes
written tag front bytes more rest q r t e b k =
    record {
      typed = subst IsTyped k.0 t;
      is = ap (λ z. tag ∷ z) b ∙ (λ i. e i ++ more) ∙ (λ i. bytes_of (k.0 i) ++ k.1 i);
    }

start_spelled : (bytes : List ℕ) (r : Record) (rest : List ℕ) → start_in bytes ≡ Some (r, rest) → IsWritten 1 r rest bytes
unfolding start_in
start_spelled bytes r rest h =
    let (n, first, h1) = parts (word_in bytes) (λ x. Some (records.Start x.0, x.1)) (r, rest) h in
    let p = word_spelled bytes n.0 n.1 first in
    written 1 (to_be_bytes w32 n.0) bytes n.1 rest (records.Start n.0) r p.fits refl p.is (same _ _ _ _ h1)

leaf_spelled : (bytes : List ℕ) (r : Record) (rest : List ℕ) → leaf_in bytes ≡ Some (r, rest) → IsWritten 2 r rest bytes
unfolding leaf_in
leaf_spelled bytes r rest h =
    let (i, first, h1) = parts (id_in bytes) (λ x. endpoint_in x.1 >>= (λ y. text_in y.1 >>= (λ z. text_in z.1 >>= (λ w. Some (records.LeafPrepared x.0 y.0 z.0 w.0, w.1))))) (r, rest) h in
    let (c, second, h2) = parts (endpoint_in i.1) (λ y. text_in y.1 >>= (λ z. text_in z.1 >>= (λ w. Some (records.LeafPrepared i.0 y.0 z.0 w.0, w.1)))) (r, rest) h1 in
    let (k, third, h3) = parts (text_in c.1) (λ z. text_in z.1 >>= (λ w. Some (records.LeafPrepared i.0 c.0 z.0 w.0, w.1))) (r, rest) h2 in
    let (v, fourth, h4) = parts (text_in k.1) (λ w. Some (records.LeafPrepared i.0 c.0 k.0 w.0, w.1)) (r, rest) h3 in
    let a = id_bytes i.0 in
    let b = endpoint_bytes c.0 in
    let d = text_bytes k.0 in
    let f = text_bytes v.0 in
    let e1 = endpoint_spelled i.1 c.0 c.1 second in
    let e2 = text_spelled c.1 k.0 k.1 third in
    let e3 = text_spelled k.1 v.0 v.1 fourth in
    let tail : i.1 ≡ (b ++ (d ++ f)) ++ v.1 =
    e1.1 ∙ ap (λ x. b ++ x) (e2.is ∙ ap (λ x. d ++ x) e3.is ∙ sym (append_assoc d f v.1)) ∙ sym (append_assoc b (d ++ f) v.1) in
    written 2 (a ++ (b ++ (d ++ f))) bytes v.1 rest (records.LeafPrepared i.0 c.0 k.0 v.0) r (e1.0, e2.utf8, e3.utf8) refl
    (id_spelled bytes i.0 i.1 first ∙ ap (λ x. a ++ x) tail ∙ sym (append_assoc a (b ++ (d ++ f)) v.1)) (same _ _ _ _ h4)

vote_spelled : (bytes : List ℕ) (r : Record) (rest : List ℕ) → vote_in bytes ≡ Some (r, rest) → IsWritten 5 r rest bytes
unfolding vote_in
vote_spelled bytes r rest h =
    let (i, first, h1) = parts (id_in bytes) (λ x. endpoint_in x.1 >>= (λ y. seats_in y.1 >>= (λ z. Some (records.Voted x.0 y.0 z.0, z.1)))) (r, rest) h in
    let (c, second, h2) = parts (endpoint_in i.1) (λ y. seats_in y.1 >>= (λ z. Some (records.Voted i.0 y.0 z.0, z.1))) (r, rest) h1 in
    let (s, third, h3) = parts (seats_in c.1) (λ z. Some (records.Voted i.0 c.0 z.0, z.1)) (r, rest) h2 in
    let a = id_bytes i.0 in
    let b = endpoint_bytes c.0 in
    let d = seats_bytes s.0 in
    let e1 = endpoint_spelled i.1 c.0 c.1 second in
    let e2 = seats_spelled c.1 s.0 s.1 third in
    written 5 (a ++ (b ++ d)) bytes s.1 rest (records.Voted i.0 c.0 s.0) r (e1.0, e2.0) refl
    (id_spelled bytes i.0 i.1 first ∙ ap (λ x. a ++ x) (e1.1 ∙ ap (λ x. b ++ x) e2.1 ∙ sym (append_assoc b d s.1)) ∙ sym (append_assoc a (b ++ d) s.1)) (same _ _ _ _ h3)

decision_spelled : (bytes : List ℕ) (r : Record) (rest : List ℕ) → decision_in bytes ≡ Some (r, rest) → IsWritten 6 r rest bytes
unfolding decision_in
decision_spelled bytes r rest h =
    let (i, first, h1) = parts (id_in bytes) (λ x. seats_in x.1 >>= (λ z. Some (records.Decided x.0 z.0, z.1))) (r, rest) h in
    let (s, second, h2) = parts (seats_in i.1) (λ z. Some (records.Decided i.0 z.0, z.1)) (r, rest) h1 in
    let a = id_bytes i.0 in
    let d = seats_bytes s.0 in
    let e2 = seats_spelled i.1 s.0 s.1 second in
    written 6 (a ++ d) bytes s.1 rest (records.Decided i.0 s.0) r e2.0 refl
    (id_spelled bytes i.0 i.1 first ∙ ap (λ x. a ++ x) e2.1 ∙ sym (append_assoc a d s.1)) (same _ _ _ _ h2)

equal : (tag n : ℕ) → nat_eq tag n ≡ true → n ≡ tag
equal tag n e = search rules

is_named : (id : Numbers) (tag n : ℕ) (q r : Record) → nat_eq tag n ≡ true → Some q ≡ Some r → IsTyped q → n ∷ id_bytes id ≡ bytes_of q → IsTyped r × (tag ∷ id_bytes id ≡ bytes_of r)
is_named id tag n q r e k t b =
    let s = some_is q r k in
    (subst IsTyped s t, ap (λ z. z ∷ id_bytes id) (sym (equal tag n e)) ∙ b ∙ ap bytes_of s)

pub named_is : (tag : ℕ) (id : Numbers) (r : Record) → named tag id ≡ Some r → IsTyped r × (tag ∷ id_bytes id ≡ bytes_of r)
named_is tag id r h = one (either (nat_eq tag 3) _ _ _ h) where
  five : ((nat_eq tag 10 ≡ true) × (Some (records.Done id) ≡ Some r)) ⊎ ((nat_eq tag 10 ≡ false) × (None ≡ Some r)) → IsTyped r × (tag ∷ id_bytes id ≡ bytes_of r)
  five (inl h) = is_named id tag 10 _ r h.0 h.1 tt refl
  five (inr h) = absurd cc

  four : ((nat_eq tag 8 ≡ true) × (Some (records.Ended id) ≡ Some r)) ⊎ ((nat_eq tag 8 ≡ false) × (cond (nat_eq tag 10) (Some (records.Done id)) None ≡ Some r)) → IsTyped r × (tag ∷ id_bytes id ≡ bytes_of r)
  four (inl h) = is_named id tag 8 _ r h.0 h.1 tt refl
  four (inr h) = five (either (nat_eq tag 10) _ _ _ h.1)

  three : ((nat_eq tag 7 ≡ true) × (Some (records.SubCommitted id) ≡ Some r)) ⊎ ((nat_eq tag 7 ≡ false) × (cond (nat_eq tag 8) (Some (records.Ended id)) (cond (nat_eq tag 10) (Some (records.Done id)) None) ≡ Some r)) → IsTyped r × (tag ∷ id_bytes id ≡ bytes_of r)
  three (inl h) = is_named id tag 7 _ r h.0 h.1 tt refl
  three (inr h) = four (either (nat_eq tag 8) _ _ _ h.1)

  two : ((nat_eq tag 4 ≡ true) × (Some (records.LeafAborted id) ≡ Some r)) ⊎ ((nat_eq tag 4 ≡ false) × (cond (nat_eq tag 7) (Some (records.SubCommitted id)) (cond (nat_eq tag 8) (Some (records.Ended id)) (cond (nat_eq tag 10) (Some (records.Done id)) None)) ≡ Some r)) → IsTyped r × (tag ∷ id_bytes id ≡ bytes_of r)
  two (inl h) = is_named id tag 4 _ r h.0 h.1 tt refl
  two (inr h) = three (either (nat_eq tag 7) _ _ _ h.1)

  one : ((nat_eq tag 3 ≡ true) × (Some (records.LeafCommitted id) ≡ Some r)) ⊎ ((nat_eq tag 3 ≡ false) × (cond (nat_eq tag 4) (Some (records.LeafAborted id)) (cond (nat_eq tag 7) (Some (records.SubCommitted id)) (cond (nat_eq tag 8) (Some (records.Ended id)) (cond (nat_eq tag 10) (Some (records.Done id)) None))) ≡ Some r)) → IsTyped r × (tag ∷ id_bytes id ≡ bytes_of r)
  one (inl h) = is_named id tag 3 _ r h.0 h.1 tt refl
  one (inr h) = two (either (nat_eq tag 4) _ _ _ h.1)

named_spelled : (tag : ℕ) (bytes : List ℕ) (r : Record) (rest : List ℕ) → named_in tag bytes ≡ Some (r, rest) → IsWritten tag r rest bytes
unfolding named_in
named_spelled tag bytes r rest h =
    let (i, first, h1) = parts (id_in bytes) (λ x. named tag x.0 >>= (λ y. Some (y, x.1))) (r, rest) h in
    let (q, second, h2) = parts (named tag i.0) (λ y. Some (y, i.1)) (r, rest) h1 in
    let k = named_is tag i.0 q second in
    written tag (id_bytes i.0) bytes i.1 rest q r k.0 k.1 (id_spelled bytes i.0 i.1 first) (same _ _ _ _ h2)

retag : (n tag : ℕ) (r : Record) (rest bytes : List ℕ) → nat_eq tag n ≡ true → IsWritten n r rest bytes → IsWritten tag r rest bytes
retag n tag r rest bytes e h = subst (λ t. IsWritten t r rest bytes) (equal tag n e) h

fields_spelled : (tag : ℕ) (bytes : List ℕ) (r : Record) (rest : List ℕ) → fields_in tag bytes ≡ Some (r, rest) → IsWritten tag r rest bytes
unfolding fields_in
fields_spelled tag bytes r rest h = one (either (nat_eq tag 1) _ _ _ h) where
  four : ((nat_eq tag 6 ≡ true) × (decision_in bytes ≡ Some (r, rest))) ⊎ ((nat_eq tag 6 ≡ false) × (named_in tag bytes ≡ Some (r, rest))) → IsWritten tag r rest bytes
  four (inl h) = retag 6 tag r rest bytes h.0 (decision_spelled bytes r rest h.1)
  four (inr h) = named_spelled tag bytes r rest h.1

  three : ((nat_eq tag 5 ≡ true) × (vote_in bytes ≡ Some (r, rest))) ⊎ ((nat_eq tag 5 ≡ false) × (cond (nat_eq tag 6) (decision_in bytes) (named_in tag bytes) ≡ Some (r, rest))) → IsWritten tag r rest bytes
  three (inl h) = retag 5 tag r rest bytes h.0 (vote_spelled bytes r rest h.1)
  three (inr h) = four (either (nat_eq tag 6) _ _ _ h.1)

  two : ((nat_eq tag 2 ≡ true) × (leaf_in bytes ≡ Some (r, rest))) ⊎ ((nat_eq tag 2 ≡ false) × (cond (nat_eq tag 5) (vote_in bytes) (cond (nat_eq tag 6) (decision_in bytes) (named_in tag bytes)) ≡ Some (r, rest))) → IsWritten tag r rest bytes
  two (inl h) = retag 2 tag r rest bytes h.0 (leaf_spelled bytes r rest h.1)
  two (inr h) = three (either (nat_eq tag 5) _ _ _ h.1)

  one : ((nat_eq tag 1 ≡ true) × (start_in bytes ≡ Some (r, rest))) ⊎ ((nat_eq tag 1 ≡ false) × (cond (nat_eq tag 2) (leaf_in bytes) (cond (nat_eq tag 5) (vote_in bytes) (cond (nat_eq tag 6) (decision_in bytes) (named_in tag bytes))) ≡ Some (r, rest))) → IsWritten tag r rest bytes
  one (inl h) = retag 1 tag r rest bytes h.0 (start_spelled bytes r rest h.1)
  one (inr h) = two (either (nat_eq tag 2) _ _ _ h.1)

whole_is : (said : Taken Record) (r : Record) → whole said ≡ Some r → said ≡ Some (r, [])
whole_is None r h = absurd cc
whole_is (Some (q, [])) r h = ap (λ z. Some (z, [])) (some_is q r h)
whole_is (Some (q, byte ∷ rest)) r h = absurd cc

pub record_spelled : (body : List ℕ) (r : Record) → record_in body ≡ Some r → IsTyped r × (body ≡ bytes_of r)
unfolding record_in
record_spelled [] r h = absurd cc
record_spelled (tag ∷ rest) r h =
    let k = fields_spelled tag rest r [] (whole_is (fields_in tag rest) r h) in
    (k.typed, k.is ∙ append-nil (bytes_of r))
