use Rattle.std.proofs.Common.{◌≡◌, ◌++◌}
use Rattle.coordinator_at.specs.TransactionPlans.{roots_lost}
use Rattle.coordinator_at.proofs.transactions.push_lost_roots.Given as goal

abbrev pub invariant-loop-transaction : goal.invariant-loop-transaction
invariant-loop-transaction l = l.effects ++ roots_lost l.transaction-iterator ≡ l.fn.effects ++ roots_lost l.fn.live
