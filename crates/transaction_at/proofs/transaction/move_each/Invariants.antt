use Rattle.std.proofs.Common.{◌≡◌, ◌++◌, take, drop}
use Rattle.at_model.specs.Seats.{moved}
use Rattle.transaction_at.specs.Groups.{belongs}
use Rattle.transaction_at.proofs.transaction.move_each.Given as goal

abbrev pub invariant-loop-seat : goal.invariant-loop-seat
invariant-loop-seat l =
    take l.seat-index l.seat-items ++ moved (belongs l.group) l.state (drop l.seat-index l.seat-items)
    ≡ moved (belongs l.group) l.state l.initial.seat-items
