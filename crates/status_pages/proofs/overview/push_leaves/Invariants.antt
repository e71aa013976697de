use Rattle.std.proofs.Common.{◌≡◌, ◌++◌}
use Rattle.status_pages.specs.Overview.{leaf_rows}
use Rattle.status_pages.proofs.overview.push_leaves.Given as goal

abbrev pub invariant-loop-item : goal.invariant-loop-item
invariant-loop-item l = l.out.items ++ leaf_rows l.fn.now l.item-iterator ≡ l.fn.out.items ++ leaf_rows l.fn.now l.fn.items
