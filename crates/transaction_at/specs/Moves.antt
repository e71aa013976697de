-- The small changes of a transaction, and what is chosen for it.
use Rattle.std.specs.Prelude.{ℕ, List, [], ◌∷◌, ◌++◌, Option, Some, None, if◌then◌else◌, map}
use Rattle.at_model.specs.Book.{Enlistment, Transaction}
use Rattle.at_model.specs.Moves.{Change, Decision, Moving}
use Rattle.at_model.specs.Seats.{move_if, seat_in}
use Rattle.by_id.specs.Fates
use Rattle.by_id.specs.declared.fates.Choice.{Choice}
use Rattle.by_id.specs.declared.fates.Fate.{Fate}
use Rattle.by_id.specs.declared.fates.Turn.{Turn}
use Rattle.transaction_at.specs.Groups.{belongs}
use Rattle.transaction_at.specs.Numbers.{is_numbered}
use Rattle.transaction_at.specs.PhaseNames.{phase_of}
use Rattle.transaction_at.specs.Rooms.{has_room}
use Rattle.transaction_at.specs.declared.moves.Changed.{Changed}
use Rattle.transaction_at.specs.declared.moves.Move.{Move}
use Rattle.transaction_at.specs.declared.moves.Move.TheVariants as moves
use Rattle.transaction_at.specs.declared.moves.SeatMove.{SeatMove}
use Rattle.transaction_at.specs.declared.moves.SeatMove.TheVariants as seat_moves

abbrev pub move_seat : SeatMove → Enlistment → Enlistment
move_seat (seat_moves.One number state) s = move_if (is_numbered number) state s
move_seat (seat_moves.Each group state) s = move_if (belongs group) state s

-- a seat behind these moves, the first of them first
abbrev pub seat_behind : List SeatMove → Enlistment → Enlistment
seat_behind [] s = s
seat_behind (by ∷ later) s = seat_behind later (move_seat by s)

abbrev pub seats_behind : List SeatMove → List Enlistment → List Enlistment
seats_behind by seats = map (seat_behind by) seats

-- what is changed of a transaction, and the rest as it stands
abbrev pub changed : Changed → Transaction → Transaction
changed c t = record t {
  superior = c.superior;
  phase = phase_of c.phase;
  sent = c.sent;
  aborted = c.aborted;
  seats = seats_behind c.seats.items t.seats;
  completion = c.completion;
}

-- A transaction on its way through a step: as it was found, and as it is by then.
pub record Drafting : Type 0 where
  pub lent : Transaction
  pub course : Moving Transaction

abbrev pub onto : (Moving Transaction → Moving Transaction) → Drafting → Drafting
onto f d = record { lent = d.lent; course = f d.course }

-- a step's begin: nothing is changed, but for this
abbrev pub drafted : Transaction → Moving Transaction → Drafting
drafted t course = record { lent = t; course = course }

-- when it last sent: at this moment, or as before
abbrev pub sent_or : Option ℕ → Option ℕ → Option ℕ
sent_or None before = before
sent_or (Some now) before = Some now

-- one seat more, where there is room for it
abbrev pub enlisted : Enlistment → Option ℕ → ℕ → Transaction → Transaction
enlisted s sent room t =
    if has_room room t.seats then record t { seats = t.seats ++ s ∷ []; sent = sent_or sent t.sent } else t

abbrev pub moved : Move → Transaction → Transaction
moved (moves.Seat number state) t = seat_in number state t
moved (moves.Sent now) t = record t { sent = Some now }
moved (moves.Enlisted s sent room) t = enlisted s sent room t
moved (moves.Initiator completion) t = record t { completion = Some completion }
moved (moves.Changed changes) t = changed changes t

abbrev pub fate_of : Option Transaction → Fate Transaction Move → Option Transaction
fate_of = Fates.fate_of moved

abbrev pub turn_of : Option Transaction → Turn Transaction Move → Change Transaction
turn_of = Fates.turn_of moved

abbrev pub meant : Option Transaction → Choice Transaction Move → Decision Transaction
meant = Fates.meant moved
