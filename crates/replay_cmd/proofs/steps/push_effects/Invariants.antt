use Rattle.std.specs.Prelude.{◌≡◌, ◌++◌, drop}
use Rattle.replay_cmd.specs.ReportOf.{effect_lines}
use Rattle.replay_cmd.proofs.steps.push_effects.Given as goal

abbrev pub invariant-loop-effect : goal.invariant-loop-effect
invariant-loop-effect l =
    l.lines ++ effect_lines l.node (drop l.effect-index l.fn.effects)
    ≡ l.fn.lines ++ effect_lines l.node l.fn.effects
