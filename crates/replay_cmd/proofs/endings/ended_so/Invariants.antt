use Rattle.std.specs.Prelude.{◌≡◌, ◌≤◌, ◌+◌, drop}
use Rattle.replay_cmd.specs.ReportOf.{ended_so}
use Rattle.replay_cmd.proofs.endings.ended_so.Given as goal

abbrev pub invariant-loop-effect : goal.invariant-loop-effect
invariant-loop-effect l =
    (l.count + ended_so l.how (drop l.effect-index l.fn.effects) ≡ ended_so l.how l.fn.effects) × (l.count ≤ l.effect-index)
