use Rattle.std.proofs.Common.{◌≡◌, ◌++◌}
use Rattle.coordinator_at.specs.TransactionPlans.{subordinates_lost}
use Rattle.coordinator_at.proofs.transactions.push_lost_subordinates.Given as goal

abbrev pub invariant-loop-transaction : goal.invariant-loop-transaction
invariant-loop-transaction l =
    l.effects ++ subordinates_lost l.transaction-iterator ≡ l.fn.effects ++ subordinates_lost l.fn.live
