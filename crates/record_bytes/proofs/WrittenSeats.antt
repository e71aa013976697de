-- Seats that are written one by one.
use Rattle.std.proofs.Common.{ℕ, List, [], ◌∷◌, length, ◌≡◌, ◌++◌, ◌+◌, ◌<◌, ◌≤◌, sym, ◌∙◌, ap, subst, take, get_or}
use Rattle.std.specs.List.{All}
use Rattle.std.proofs.lemmas.List.{append_assoc, append-nil, take_all, take_more}
use Rattle.at_base.specs.WellFormed.{IsEndpoint}
use Rattle.at_base.specs.declared.record.Seated.{Seated}
use Rattle.record_bytes.specs.Bytes.{each_seat, seat_bytes}
use Rattle.record_bytes.specs.Versions.{AreTypedSeats, IsTypedSeat}

-- so many seats were written
pub record ArePut (seats : List Seated) (i : ℕ) (start items : List ℕ) : Type 0 where
  pub is : items ≡ start ++ each_seat (take i seats)
  pub typed : AreTypedSeats (take i seats)

each_push : (ss : List Seated) (s : Seated) → each_seat (ss ++ s ∷ []) ≡ each_seat ss ++ seat_bytes s
each_push [] s = append-nil (seat_bytes s)
each_push (x ∷ ss) s = ap (λ b. seat_bytes x ++ b) (each_push ss s) ∙ sym (append_assoc (seat_bytes x) (each_seat ss) (seat_bytes s))

typed_push : (ss : List Seated) (s : Seated) → AreTypedSeats ss → IsTypedSeat s → AreTypedSeats (ss ++ s ∷ [])
typed_push [] s h t = (t, tt)
typed_push (x ∷ ss) s h t = (h.0, typed_push ss s h.1 t)

pub none_put : (seats : List Seated) (start : List ℕ) → ArePut seats 0 start start
none_put seats start = record { is = sym (append-nil start); typed = tt }

pub more_put : (seats : List Seated) (i : ℕ) (d s : Seated) (start items more : List ℕ) → i < length seats → s ≡ get_or seats i d
    → more ≡ items ++ seat_bytes s → IsTypedSeat s → ArePut seats i start items → ArePut seats (i + 1) start more
more_put seats i d s start items more l e m t h =
    let list : take (i + 1) seats ≡ take i seats ++ s ∷ [] = take_more seats i d l ∙ ap (λ x. take i seats ++ x ∷ []) (sym e) in
    record {
      is = m ∙ ap (λ b. b ++ seat_bytes s) h.is ∙ append_assoc start (each_seat (take i seats)) (seat_bytes s) ∙ ap (λ b. start ++ b) (sym (each_push (take i seats) s) ∙ ap each_seat (sym list));
      typed = subst AreTypedSeats (sym list) (typed_push (take i seats) s h.typed t);
    }

pub all_put : (seats : List Seated) (i : ℕ) (start items : List ℕ) → length seats ≤ i → ArePut seats i start items → items ≡ start ++ each_seat seats
all_put seats i start items l h = h.is ∙ ap (λ ss. start ++ each_seat ss) (take_all i seats l)

pub all_typed : (seats : List Seated) (i : ℕ) (start items : List ℕ) → length seats ≤ i → ArePut seats i start items → AreTypedSeats seats
all_typed seats i start items l h = subst AreTypedSeats (take_all i seats l) h.typed

pub endpoint_at : (seats : List Seated) (i : ℕ) (d s : Seated) → i < length seats → s ≡ get_or seats i d → All (λ x. IsEndpoint x.endpoint) seats → IsEndpoint s.endpoint
endpoint_at seats i d s l e h = subst (λ x. IsEndpoint x.endpoint) (sym e) (h i d l)
