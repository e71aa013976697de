use Rattle.std.proofs.Common.{◌≡◌, drop}
use Rattle.transaction_at.specs.Moves.{seats_behind}
use Rattle.transaction_at.proofs.moves.make_each.Given as goal

abbrev pub invariant-loop-by : goal.invariant-loop-by
invariant-loop-by l = seats_behind (drop l.by-index l.moves) l.seats ≡ seats_behind l.moves l.fn.seats
