use Rattle.std.proofs.Common.{◌≡◌, ◌≤◌, ◌+◌, length, false}
use Rattle.xml_grammar.specs.Code.Digits.{capped_from}
use Rattle.xml_grammar.proofs.lexer.read_number.Given as goal

abbrev pub invariant-loop : goal.invariant-loop
invariant-loop l = (capped_from l.is_hexadecimal l.any l.number l.rest ≡ capped_from l.is_hexadecimal false 0 l.cs) × (l.number ≤ 1114112) × (length l.rest + l.counter ≡ length l.cs)
