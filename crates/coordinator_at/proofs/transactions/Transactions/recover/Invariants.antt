use Rattle.std.proofs.Common.{◌≡◌, ◌++◌, drop}
use Rattle.coordinator_at.specs.Recoveries.{transactions_in}
use Rattle.coordinator_at.proofs.transactions.Transactions.recover.Given as goal

abbrev pub invariant-loop-entry : goal.invariant-loop-entry
invariant-loop-entry l =
    (l.place ≡ l.entry-index)
    × (l.transactions.items ++ transactions_in l.base (drop l.entry-index l.live) ≡ transactions_in l.base l.live)
