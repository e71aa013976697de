use Rattle.std.proofs.Common.{◌≡◌, ◌++◌, drop}
use Rattle.at_model.specs.Seats.{notices_to}
use Rattle.transaction_at.specs.Groups.{belongs}
use Rattle.transaction_at.specs.Moves.{seats_behind}
use Rattle.transaction_at.proofs.seats.push_notices.Given as goal

abbrev pub invariant-loop-seat : goal.invariant-loop-seat
invariant-loop-seat l =
    l.posts ++ notices_to l.fn.moment.base l.id l.notice (seats_behind l.moves (drop l.seat-index l.seats)) (belongs l.group)
    ≡ l.fn.posts ++ notices_to l.fn.moment.base l.id l.notice (seats_behind l.moves l.seats) (belongs l.group)
