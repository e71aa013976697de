use Rattle.std.proofs.Common.{◌≡◌, drop}
use Rattle.std.specs.List.{list_all}
use Rattle.xml_grammar.specs.Characters.{is_digit}
use Rattle.xml_grammar.proofs.declaration.all_digits.Given as goal

abbrev pub invariant-loop-c : goal.invariant-loop-c
invariant-loop-c l = list_all is_digit (drop l.c-index l.cs) ≡ list_all is_digit l.cs
