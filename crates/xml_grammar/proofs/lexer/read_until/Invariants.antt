use Rattle.std.proofs.Common.{◌≡◌, ◌≤◌, ◌-◌, length, drop, take}
use Rattle.xml_grammar.specs.Characters.{until}
use Rattle.xml_grammar.specs.Code.Reading.{with_front}
use Rattle.xml_grammar.proofs.lexer.read_until.Given as goal

abbrev pub invariant-loop-n : goal.invariant-loop-n
invariant-loop-n l = (l.n ≤ length l.cs) × (with_front (take l.n l.cs) (until l.word (drop l.n l.cs)) ≡ until l.word l.cs)

abbrev pub decreases-loop-n : goal.decreases-loop-n
decreases-loop-n l = length l.cs - l.n
