use Rattle.std.proofs.Common.{◌≡◌, ◌++◌, drop, map}
use Rattle.at_model.specs.Recovery.{recovered_seat}
use Rattle.coordinator_at.proofs.recover.recovered_seats.Given as goal

abbrev pub invariant-loop-seated : goal.invariant-loop-seated
invariant-loop-seated l =
    l.recovered ++ map (recovered_seat l.state) (drop l.seated-index l.seats) ≡ map (recovered_seat l.state) l.seats
