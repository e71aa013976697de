use Rattle.std.proofs.Common.{◌≡◌, ◌++◌, ◌-◌}
use Rattle.schedules.specs.Generator.{lines_from, made}
use Rattle.schedules.proofs.generator.lines_of.Given as goal

abbrev pub invariant-loop-step : goal.invariant-loop-step
invariant-loop-step l = l.lines.items ++ lines_from (l.steps - l._step) l.generator.state ≡ made l.seed l.steps
