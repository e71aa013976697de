use Rattle.std.proofs.Common.{rules}
use Rattle.transaction_at.proofs.SeatNumbers.{rising_pushed}
use Rattle.transaction_at.proofs.numbers.is_next.Goals as goal

pub returns-in-Some : goal.returns-in-Some
returns-in-Some c before = rising_pushed c.args.seats.now c.args.seat.now (λ d. search rules)
