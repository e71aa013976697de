use Rattle.std.proofs.Common.{◌≡◌, ◌≤◌, ◌-◌, ◌*◌, ◌^◌, take}
use Rattle.std.specs.Prelude.{sum_by}
use Rattle.world_laws.specs.Holdings.{node_held}
use Rattle.world_laws.proofs.holdings.all_held.Given as goal

abbrev pub invariant-loop-node : goal.invariant-loop-node
invariant-loop-node l =
    (l.held ≡ sum_by node_held (take l.node-index l.nodes)) × (l.held ≤ l.node-index * (2 ^ 64 - 1))
