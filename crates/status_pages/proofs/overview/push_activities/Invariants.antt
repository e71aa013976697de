use Rattle.std.proofs.Common.{◌≡◌, ◌++◌}
use Rattle.status_pages.specs.Overview.{activity_rows}
use Rattle.status_pages.proofs.overview.push_activities.Given as goal

abbrev pub invariant-loop-item : goal.invariant-loop-item
invariant-loop-item l = l.out.items ++ activity_rows l.fn.now l.item-iterator ≡ l.fn.out.items ++ activity_rows l.fn.now l.fn.items
