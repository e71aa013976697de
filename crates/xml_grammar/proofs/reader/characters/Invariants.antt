use Rattle.std.proofs.Common.{◌≡◌}
use Rattle.xml_grammar.proofs.reader.characters.Given as goal

abbrev pub invariant-loop-c : goal.invariant-loop-c
invariant-loop-c l = l.out.items ≡ l.yielded
