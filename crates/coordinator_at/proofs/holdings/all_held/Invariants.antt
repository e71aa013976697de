use Rattle.std.proofs.Common.{◌≡◌, ◌+◌, ◌-◌, ◌^◌, ◌≤◌}
use Rattle.std.specs.Prelude.{min, sum_by}
use Rattle.coordinator_at.specs.Holdings.{transaction_held}
use Rattle.coordinator_at.proofs.holdings.all_held.Given as goal

abbrev pub invariant-loop-transaction : goal.invariant-loop-transaction
invariant-loop-transaction l =
    (l.held ≤ 2 ^ 64 - 1)
    × (min (l.held + sum_by transaction_held l.transaction-iterator) (2 ^ 64 - 1) ≡ min (sum_by transaction_held l.fn.transactions) (2 ^ 64 - 1))
