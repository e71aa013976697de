use Rattle.std.proofs.Common.{◌≡◌, ◌+◌, ◌++◌, length}
use Rattle.xml_grammar.specs.Spells.{line_ends}
use Rattle.xml_grammar.proofs.lines.read_line_ends.Given as goal

abbrev pub invariant-loop : goal.invariant-loop
invariant-loop l = (l.out.items ++ line_ends l.rest ≡ line_ends l.cs) × (length l.rest + l.counter ≡ length l.cs)
