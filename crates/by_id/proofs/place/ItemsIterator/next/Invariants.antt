use Rattle.std.proofs.Common.{◌≡◌, length}
use Rattle.by_id.specs.Places.{left}
use Rattle.by_id.proofs.place.ItemsIterator.next.Given as goal

abbrev pub invariant-loop-first : goal.invariant-loop-first
invariant-loop-first g l = left l.self-inside.places.now ≡ l.fn.self

abbrev pub decreases-loop-first : goal.decreases-loop-first
decreases-loop-first g l = length l.self-inside.places.now
