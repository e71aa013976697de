use Rattle.std.proofs.Common.{◌≡◌, ◌++◌, drop}
use Rattle.at_model.specs.Due.{seats_again}
use Rattle.coordinator_at.proofs.due.push_seats_again.Given as goal

abbrev pub invariant-loop-seat : goal.invariant-loop-seat
invariant-loop-seat l =
    l.posts ++ seats_again l.moment.base l.id (drop l.seat-index l.seats)
    ≡ l.fn.posts ++ seats_again l.moment.base l.id l.seats
