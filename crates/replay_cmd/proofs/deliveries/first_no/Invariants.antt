use Rattle.std.specs.Prelude.{◌≡◌, true}
use Rattle.replay_cmd.specs.Deliveries.{all_yes}
use Rattle.replay_cmd.proofs.deliveries.first_no.Given as goal

abbrev pub invariant-loop-place : goal.invariant-loop-place
invariant-loop-place l = all_yes l.place l.fn.items ≡ true
