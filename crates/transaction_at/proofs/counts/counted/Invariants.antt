use Rattle.std.proofs.Common.{◌≡◌, take}
use Rattle.transaction_at.specs.Counts.{counted}
use Rattle.transaction_at.proofs.counts.counted.Given as goal

abbrev pub invariant-loop-seat : goal.invariant-loop-seat
invariant-loop-seat l = l.counts ≡ counted (take l.seat-index l.seats)
