use Rattle.std.proofs.Common.{◌≡◌, drop}
use Rattle.transaction_at.specs.Moves.{seat_behind}
use Rattle.transaction_at.proofs.moves.state_behind.Given as goal

abbrev pub invariant-loop-by : goal.invariant-loop-by
invariant-loop-by l =
    seat_behind (drop l.by-index l.moves) (record l.seat { state = l.state }) ≡ seat_behind l.moves l.seat
