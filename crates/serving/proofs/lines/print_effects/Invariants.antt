use Rattle.std.proofs.Common.{ℕ, List, ◌≤◌, drop, Option, Result}
use Rattle.serving.specs.Lines.{effect_lines}
use Rattle.serving.specs.Printing.{Printing}
use Rattle.serving.specs.declared.lines.Unprinted.{Unprinted}
use Rattle.serving.proofs.lines.print_effects.Given as goal

abbrev pub invariant-loop-effect : goal.invariant-loop-effect
invariant-loop-effect g l =
    ((r : Result (Unit {0}) Unprinted) (z : Option (List ℕ)) → Printing r (effect_lines (drop l.effect-index l.fn.effects)) (g.K.Sink.contents l.sink) z
    → Printing r (effect_lines l.fn.effects) (g.K.Sink.contents l.fn.sink) z)
    × (g.K.Sink.faults l.fn.sink ≤ g.K.Sink.faults l.sink)
