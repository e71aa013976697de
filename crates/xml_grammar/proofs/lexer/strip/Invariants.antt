use Rattle.std.proofs.Common.{◌≡◌, drop}
use Rattle.xml_grammar.specs.Characters.{strip_at}
use Rattle.xml_grammar.proofs.lexer.strip.Given as goal

abbrev pub invariant-loop-w : goal.invariant-loop-w
invariant-loop-w l = strip_at (drop l.w-index l.word) l.rest ≡ strip_at l.word l.cs
