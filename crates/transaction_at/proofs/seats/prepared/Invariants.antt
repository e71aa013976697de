use Rattle.std.proofs.Common.{◌≡◌, ◌++◌, drop}
use Rattle.at_model.specs.Seats.{prepared}
use Rattle.transaction_at.specs.Moves.{seats_behind}
use Rattle.transaction_at.proofs.seats.prepared.Given as goal

abbrev pub invariant-loop-seat : goal.invariant-loop-seat
invariant-loop-seat l =
    l.list ++ prepared (seats_behind l.moves (drop l.seat-index l.seats)) ≡ prepared (seats_behind l.moves l.seats)
