use Rattle.std.proofs.Common.{◌≡◌, drop}
use Rattle.std.specs.List.{list_any}
use Rattle.at_model.specs.Recovery.{is_sub_committed}
use Rattle.world_laws.proofs.left_records.has_committed.Given as goal

abbrev pub invariant-loop-entry : goal.invariant-loop-entry
invariant-loop-entry l = list_any (is_sub_committed l.id) (drop l.entry-index l.rest) ≡ list_any (is_sub_committed l.id) l.rest
