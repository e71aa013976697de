use Rattle.std.proofs.Common.{◌≡◌, ◌≤◌, ◌++◌, length}
use Rattle.std.specs.Vec.Iter.{into_iter_items}
use Rattle.world_laws.specs.Moves.{numbered, with_all}
use Rattle.world_laws.proofs.scene.Scene.keep_all.Given as goal

abbrev pub invariant-loop-one : goal.invariant-loop-one
invariant-loop-one l =
    (length l.self.nodes ≤ 8)
    × (with_all l.number (into_iter_items l.one-iterator) l.self ≡ with_all l.number l.fn.taken l.fn.self)
    × (l.steps ++ numbered (length l.self.posted) (into_iter_items l.one-iterator) ≡ numbered (length l.fn.self.posted) l.fn.taken)
