use Rattle.std.proofs.Common.{◌≡◌, ◌++◌, map}
use Rattle.serde_json.specs.View.{view}
use Rattle.status_pages.specs.Json.{leaf_data}
use Rattle.status_pages.proofs.json.leaves.Given as goal

abbrev pub invariant-loop-item : goal.invariant-loop-item
invariant-loop-item l = map view l.values.items ++ map (leaf_data l.fn.now) l.item-iterator ≡ map (leaf_data l.fn.now) l.fn.items
