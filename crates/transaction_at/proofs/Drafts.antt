-- The moves of a draft's seats, one behind the other.
use Rattle.std.proofs.Common.{ℕ, List, [], ◌∷◌, ◌++◌, ◌≡◌, ◌+◌, ◌<◌, ◌≤◌, ◌∙◌, refl, sym, ap, drop, get_or, length, map}
use Rattle.std.proofs.lemmas.List.{at_drop_all, at_drop_more}
use Rattle.at_base.specs.Numbers.{Numbers}
use Rattle.at_base.specs.declared.notice.Notice.{Notice}
use Rattle.at_model.specs.Book.{Enlistment}
use Rattle.at_model.specs.Posts.{notice_post}
use Rattle.at_model.specs.Seats.{seat_target, seated}
use Rattle.transaction_at.specs.Moves.{move_seat, seat_behind, seats_behind}
use Rattle.transaction_at.specs.declared.moves.SeatMove.{SeatMove}
use Rattle.transaction_at.specs.declared.moves.SeatMove.TheVariants as seat_moves

pub unchanged : (seats : List Enlistment) → seats_behind [] seats ≡ seats
unchanged [] = refl
unchanged (s ∷ ss) = ap (λ ts. s ∷ ts) (unchanged ss)

one_more : (moves : List SeatMove) (by : SeatMove) (s : Enlistment) → seat_behind (moves ++ by ∷ []) s ≡ move_seat by (seat_behind moves s)
one_more [] by s = refl
one_more (m ∷ ms) by s = one_more ms by (move_seat m s)

pub moved_behind : (moves : List SeatMove) (by : SeatMove) (seats : List Enlistment) → seats_behind (moves ++ by ∷ []) seats ≡ seats_behind (by ∷ []) (seats_behind moves seats)
moved_behind moves by [] = refl
moved_behind moves by (s ∷ ss) = λ i. one_more moves by s i ∷ moved_behind moves by ss i

-- a move, and the others behind it
pub then_behind : (by : SeatMove) (moves : List SeatMove) (seats : List Enlistment) → seats_behind moves (map (move_seat by) seats) ≡ seats_behind (by ∷ moves) seats
then_behind by moves [] = refl
then_behind by moves (s ∷ ss) = ap (λ ts. seat_behind moves (move_seat by s) ∷ ts) (then_behind by moves ss)

-- one move less is left
pub one_done : (n : ℕ) (moves : List SeatMove) (seats new before : List Enlistment) (d : SeatMove) → n < length moves
    → new ≡ map (move_seat (get_or moves n d)) seats → seats_behind (drop n moves) seats ≡ seats_behind moves before → seats_behind (drop (n + 1) moves) new ≡ seats_behind moves before
one_done n moves seats new before d h made e =
    ap (seats_behind (drop (n + 1) moves)) made
    ∙ then_behind (get_or moves n d) (drop (n + 1) moves) seats
    ∙ sym (at_drop_more (λ ms. seats_behind ms seats) moves n d h)
    ∙ e

-- no move is left
pub ended : (n : ℕ) (moves : List SeatMove) (seats before : List Enlistment) → length moves ≤ n
    → seats_behind (drop n moves) seats ≡ seats_behind moves before → seats ≡ seats_behind moves before
ended n moves seats before h e = sym (unchanged seats) ∙ sym (at_drop_all (λ ms. seats_behind ms seats) moves n h) ∙ e

-- A move changes a seat's state alone.
kept : (moves : List SeatMove) (s : Enlistment) → seat_behind moves s ≡ record s { state = (seat_behind moves s).state }
kept [] s = refl
kept (seat_moves.One number state ∷ ms) s = kept ms (move_seat (seat_moves.One number state) s)
kept (seat_moves.Each group state ∷ ms) s = kept ms (move_seat (seat_moves.Each group state) s)

pub seated_behind : (moves : List SeatMove) (s : Enlistment) → seated (seat_behind moves s) ≡ seated s
seated_behind moves s = ap seated (kept moves s)

pub told_behind : (base : List ℕ) (id : Numbers) (notice : Notice) (moves : List SeatMove) (s : Enlistment)
    → notice_post base (seat_target id (seat_behind moves s)) (seat_behind moves s).participant notice ≡ notice_post base (seat_target id s) s.participant notice
told_behind base id notice moves s = ap (λ (x : Enlistment). notice_post base (seat_target id x) x.participant notice) (kept moves s)
