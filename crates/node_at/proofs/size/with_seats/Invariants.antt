use Rattle.std.proofs.Common.{◌≡◌, ◌+◌, length, take}
use Rattle.record_bytes.specs.Bytes.{each_seat}
use Rattle.site_model.specs.Counts.{capped}
use Rattle.node_at.proofs.size.with_seats.Given as goal

abbrev pub invariant-loop-seated : goal.invariant-loop-seated
invariant-loop-seated l = l.size ≡ capped (l.fn.size + 2 + length (each_seat (take l.seated-index l.items)))
