use Rattle.std.proofs.Common.{◌≡◌, drop}
use Rattle.at_model.specs.Outcomes.{is_kept}
use Rattle.node_at.proofs.send.has.Given as goal

abbrev pub invariant-loop-other : goal.invariant-loop-other
invariant-loop-other l = is_kept l.id (drop l.other-index l.ids) ≡ is_kept l.id l.ids
