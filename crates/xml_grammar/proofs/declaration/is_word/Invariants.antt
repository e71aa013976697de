use Rattle.std.proofs.Common.{◌≡◌, drop}
use Rattle.xml_grammar.specs.Characters.{same}
use Rattle.xml_grammar.proofs.declaration.is_word.Given as goal

abbrev pub invariant-loop-w : goal.invariant-loop-w
invariant-loop-w l = same l.rest (drop l.w-index l.word) ≡ same l.cs l.word
