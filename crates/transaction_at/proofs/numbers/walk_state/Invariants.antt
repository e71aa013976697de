use Rattle.std.proofs.Common.{◌≡◌, ◌++◌, take, drop}
use Rattle.at_model.specs.Seats.{moved}
use Rattle.transaction_at.specs.Numbers.{is_numbered}
use Rattle.transaction_at.proofs.numbers.walk_state.Given as goal

abbrev pub invariant-loop-seat : goal.invariant-loop-seat
invariant-loop-seat l =
    take l.seat-index l.seat-items ++ moved (is_numbered l.number) l.state (drop l.seat-index l.seat-items)
    ≡ moved (is_numbered l.number) l.state l.initial.seat-items
