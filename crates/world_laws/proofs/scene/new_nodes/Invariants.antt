use Rattle.std.proofs.Common.{◌≡◌, ◌≤◌, ◌-◌, ◌+◌, ◌++◌}
use Rattle.at_model.specs.World.{new_nodes, example_base}
use Rattle.world_laws.proofs.scene.new_nodes.Given as goal

abbrev pub invariant-loop-number : goal.invariant-loop-number
invariant-loop-number l =
    (l.number ≤ l.count) × (l.nodes.items ++ new_nodes example_base (l.count - l.number) (l.number + 1) ≡ new_nodes example_base l.count 1)

abbrev pub decreases-loop-number : goal.decreases-loop-number
decreases-loop-number l = l.count - l.number
