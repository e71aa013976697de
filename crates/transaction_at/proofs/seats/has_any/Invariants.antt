use Rattle.std.proofs.Common.{◌≡◌, drop}
use Rattle.std.specs.List.{list_any}
use Rattle.transaction_at.specs.Groups.{belongs}
use Rattle.transaction_at.specs.Moves.{seats_behind}
use Rattle.transaction_at.proofs.seats.has_any.Given as goal

abbrev pub invariant-loop-seat : goal.invariant-loop-seat
invariant-loop-seat l =
    list_any (belongs l.group) (seats_behind l.moves (drop l.seat-index l.seats))
    ≡ list_any (belongs l.group) (seats_behind l.moves l.seats)
