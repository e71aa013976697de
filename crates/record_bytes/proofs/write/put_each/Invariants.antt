use Rattle.record_bytes.proofs.WrittenSeats.{ArePut}
use Rattle.record_bytes.proofs.write.put_each.Given as goal

abbrev pub invariant-loop-seated : goal.invariant-loop-seated
invariant-loop-seated l = ArePut l.seats l.seated-index l.fn.out.items l.out.items
