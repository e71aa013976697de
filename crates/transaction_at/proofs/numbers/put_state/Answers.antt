use Rattle.std.proofs.Common.{ap}
use Rattle.at_model.specs.Book.{Enlistment}
use Rattle.transaction_at.proofs.SeatNumbers.{state_put}
use Rattle.transaction_at.proofs.numbers.put_state.Goals as goal

pub returns-clause-items : goal.returns-clause-items
returns-clause-items c =
    state_put c.args.place c.args.state c.index_mut-seat.result.now _ c.args.seats.now.items c.index_mut-seat.ensures.value (ap (λ (s : Enlistment). record s { state = c.args.state }) c.seat.view_is)
