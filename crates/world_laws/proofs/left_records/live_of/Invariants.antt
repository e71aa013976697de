use Rattle.std.proofs.Common.{◌≡◌, ◌≤◌, drop, length}
use Rattle.at_model.specs.Recovery.{in_order, live}
use Rattle.model_laws.specs.Compactions.{record_id}
use Rattle.world_laws.proofs.left_records.live_of.Given as goal

abbrev pub invariant-loop-place : goal.invariant-loop-place
invariant-loop-place l = (l.place ≤ length l.journal) × (l.left.items ≡ in_order record_id (live (drop l.place l.journal)))

abbrev pub decreases-loop-place : goal.decreases-loop-place
decreases-loop-place l = l.place
