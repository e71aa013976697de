use Rattle.std.specs.Prelude.{◌≡◌, drop}
use Rattle.at_model.specs.Views.{behind_slash}
use Rattle.replay_cmd.proofs.lines.behind_slash.Given as goal

abbrev pub invariant-loop-place : goal.invariant-loop-place
invariant-loop-place l = behind_slash (drop l.place l.fn.bytes) ≡ behind_slash l.fn.bytes
