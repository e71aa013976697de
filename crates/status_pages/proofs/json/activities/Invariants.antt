use Rattle.std.proofs.Common.{◌≡◌, ◌++◌, map}
use Rattle.serde_json.specs.View.{view}
use Rattle.status_pages.specs.Json.{activity_data}
use Rattle.status_pages.proofs.json.activities.Given as goal

abbrev pub invariant-loop-item : goal.invariant-loop-item
invariant-loop-item l = map view l.values.items ++ map (activity_data l.fn.now) l.item-iterator ≡ map (activity_data l.fn.now) l.fn.items
