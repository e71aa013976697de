use Rattle.std.proofs.Common.{◌≡◌, ◌≤◌, ◌-◌, drop, length}
use Rattle.xml_grammar.specs.Characters.{behind_white}
use Rattle.xml_grammar.proofs.lexer.skip_white.Given as goal

abbrev pub invariant-loop-n : goal.invariant-loop-n
invariant-loop-n l = (l.n ≤ length l.cs) × (behind_white (drop l.n l.cs) ≡ behind_white l.cs)

abbrev pub decreases-loop-n : goal.decreases-loop-n
decreases-loop-n l = length l.cs - l.n
