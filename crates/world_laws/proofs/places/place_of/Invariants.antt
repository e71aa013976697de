use Rattle.std.proofs.Common.{◌≡◌, ◌+◌, drop}
use Rattle.at_model.specs.World.{place_of}
use Rattle.world_laws.proofs.places.place_of.Given as goal

abbrev pub invariant-loop-node : goal.invariant-loop-node
invariant-loop-node l =
    (l.number ≡ l.node-index)
    × (place_of (l.number + 1) (drop l.node-index l.nodes) l.address ≡ place_of 1 l.nodes l.address)
