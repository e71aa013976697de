use Rattle.std.proofs.Common.{◌≡◌, drop}
use Rattle.std.specs.List.{list_any}
use Rattle.at_model.specs.Recovery.{ends_leaf}
use Rattle.world_laws.proofs.left_records.is_leaf_ended.Given as goal

abbrev pub invariant-loop-entry : goal.invariant-loop-entry
invariant-loop-entry l = list_any (ends_leaf l.id) (drop l.entry-index l.rest) ≡ list_any (ends_leaf l.id) l.rest
