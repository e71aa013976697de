use Rattle.std.proofs.Common.{◌≡◌}
use Rattle.std.specs.Vec.Iter.{into_iter_items}
use Rattle.world_laws.specs.Walks.{sending_at, sent_each}
use Rattle.world_laws.proofs.walk.send_each.Given as goal

abbrev pub invariant-loop-out : goal.invariant-loop-out
invariant-loop-out l =
    sent_each (into_iter_items l.out-iterator) (sending_at l.luck l.taken) ≡ sent_each l.fn.outs (sending_at l.fn.luck l.fn.taken)
