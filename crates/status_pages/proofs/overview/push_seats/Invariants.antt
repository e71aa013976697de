use Rattle.std.proofs.Common.{◌≡◌, ◌++◌, drop}
use Rattle.status_pages.specs.Overview.{seat_items}
use Rattle.status_pages.proofs.overview.push_seats.Given as goal

abbrev pub invariant-loop-seat : goal.invariant-loop-seat
invariant-loop-seat l = l.out.items ++ seat_items (drop l.seat-index l.seats) ≡ l.fn.out.items ++ seat_items l.seats
