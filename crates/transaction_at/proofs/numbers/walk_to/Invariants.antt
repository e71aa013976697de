use Rattle.std.proofs.Common.{◌≡◌, drop}
use Rattle.at_model.specs.Step.{find_seat}
use Rattle.transaction_at.proofs.numbers.walk_to.Given as goal

abbrev pub invariant-loop-seat : goal.invariant-loop-seat
invariant-loop-seat l = find_seat l.number l.kind (drop l.seat-index l.seats) ≡ find_seat l.number l.kind l.seats
