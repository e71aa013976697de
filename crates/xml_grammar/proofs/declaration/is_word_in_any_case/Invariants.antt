use Rattle.std.proofs.Common.{◌≡◌, drop, map}
use Rattle.xml_grammar.specs.Characters.{same}
use Rattle.xml_grammar.specs.Spells.{lower}
use Rattle.xml_grammar.proofs.declaration.is_word_in_any_case.Given as goal

abbrev pub invariant-loop-w : goal.invariant-loop-w
invariant-loop-w l = same (map lower l.rest) (drop l.w-index l.word) ≡ same (map lower l.cs) l.word
