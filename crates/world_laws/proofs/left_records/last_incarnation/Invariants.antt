use Rattle.std.proofs.Common.{◌≡◌, ◌≤◌, drop, length}
use Rattle.at_model.specs.Recovery.{last_incarnation}
use Rattle.world_laws.proofs.left_records.last_incarnation.Given as goal

abbrev pub invariant-loop-place : goal.invariant-loop-place
invariant-loop-place l = (l.place ≤ length l.journal) × (l.last ≡ last_incarnation (drop l.place l.journal))

abbrev pub decreases-loop-place : goal.decreases-loop-place
decreases-loop-place l = l.place
