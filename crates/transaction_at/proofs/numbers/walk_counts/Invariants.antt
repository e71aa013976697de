use Rattle.std.proofs.Common.{◌≡◌, take}
use Rattle.at_model.specs.Seats.{moved}
use Rattle.transaction_at.specs.Counts.{counted}
use Rattle.transaction_at.specs.Numbers.{is_numbered}
use Rattle.transaction_at.proofs.numbers.walk_counts.Given as goal

abbrev pub invariant-loop-seat : goal.invariant-loop-seat
invariant-loop-seat l = l.counts ≡ counted (moved (is_numbered l.number) l.state (take l.seat-index l.seats))
