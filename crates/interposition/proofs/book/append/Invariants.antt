use Rattle.std.proofs.Common.{◌≡◌, ◌++◌}
use Rattle.std.specs.Vec.Iter.{into_iter_items}
use Rattle.interposition.proofs.book.append.Given as goal

abbrev pub invariant-loop-effect : goal.invariant-loop-effect
invariant-loop-effect l = l.effects ++ into_iter_items l.effect-iterator ≡ l.fn.effects ++ l.fn.more
