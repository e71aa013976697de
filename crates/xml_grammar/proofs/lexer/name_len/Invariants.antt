use Rattle.std.proofs.Common.{◌≡◌, ◌≤◌, ◌-◌, ◌+◌, drop, length}
use Rattle.std.specs.List.{prefix_len}
use Rattle.xml_grammar.specs.Characters.{is_name_char}
use Rattle.xml_grammar.proofs.lexer.name_len.Given as goal

abbrev pub invariant-loop-n : goal.invariant-loop-n
invariant-loop-n l = (l.n ≤ length l.cs) × (l.n + prefix_len is_name_char (drop l.n l.cs) ≡ prefix_len is_name_char l.cs)

abbrev pub decreases-loop-n : goal.decreases-loop-n
decreases-loop-n l = length l.cs - l.n
