use Rattle.std.proofs.Common.{◌≡◌, ◌++◌, map}
use Rattle.serde_json.specs.View.{view}
use Rattle.status_pages.specs.Json.{transaction_data}
use Rattle.status_pages.proofs.json.transactions.Given as goal

abbrev pub invariant-loop-item : goal.invariant-loop-item
invariant-loop-item l = map view l.values.items ++ map (transaction_data l.fn.now) l.item-iterator ≡ map (transaction_data l.fn.now) l.fn.items
