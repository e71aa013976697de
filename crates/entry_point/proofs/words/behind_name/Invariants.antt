use Rattle.std.specs.Prelude.{◌≡◌}
use Rattle.entry_point.proofs.words.behind_name.Given as goal

abbrev pub invariant-loop-word : goal.invariant-loop-word
invariant-loop-word l = l.behind.items ≡ l.yielded
