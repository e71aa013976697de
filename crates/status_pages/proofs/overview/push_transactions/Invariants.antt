use Rattle.std.proofs.Common.{◌≡◌, ◌++◌}
use Rattle.status_pages.specs.Overview.{transaction_rows}
use Rattle.status_pages.proofs.overview.push_transactions.Given as goal

abbrev pub invariant-loop-item : goal.invariant-loop-item
invariant-loop-item l = l.out.items ++ transaction_rows l.fn.now l.item-iterator ≡ l.fn.out.items ++ transaction_rows l.fn.now l.fn.items
