use Rattle.std.proofs.Common.{◌≡◌, drop}
use Rattle.std.specs.List.{list_all}
use Rattle.xml_grammar.specs.Characters.{continues_part}
use Rattle.xml_grammar.proofs.lexer.all_continue.Given as goal

abbrev pub invariant-loop-c : goal.invariant-loop-c
invariant-loop-c l = list_all continues_part (drop l.c-index l.cs) ≡ list_all continues_part l.cs
