use Rattle.record_bytes.proofs.ReadSeats.{AreRead}
use Rattle.record_bytes.proofs.cursor.Cursor.each.Given as goal

abbrev pub invariant-loop : goal.invariant-loop
invariant-loop l = AreRead l.count l.counter l.seats.items l.fn.self l.self
