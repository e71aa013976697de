use Rattle.std.proofs.Common.{rules}
use Rattle.record_bytes.proofs.WrittenSeats.{more_put}
use Rattle.record_bytes.proofs.write.put_each.Goals as goal

-- src/write.rt:77:5
pub loop-seated-preserved : goal.loop-seated-preserved
loop-seated-preserved c =
    more_put c.args.seats.now c.loop-seated.seated-index c.seated-item.result c.seated-item.result _ _ _ (search rules) c.seated-item.is
    c.in_ok-put_seat.ensures.done c.in_ok-put_seat.ensures.typed c.loop-seated.invariant
