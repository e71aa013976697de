use Rattle.std.proofs.Common.{◌≡◌, ℕ, List, [], ◌∷◌, map, refl, sym, ap, ◌∙◌}
use Rattle.std.proofs.lemmas.List.{drop_all}
use Rattle.xml_grammar.specs.Characters.{same}
use Rattle.xml_grammar.specs.Spells.{lower}
use Rattle.xml_grammar.proofs.declaration.is_word_in_any_case.Goals as goal

ends : (cs : List ℕ) → same cs [] ≡ same (map lower cs) []
ends [] = refl
ends (c ∷ cs) = refl

pub returns : goal.returns
returns c = c.is_end.ensures ∙ ends c.loop-w.rest.now ∙ ap (same (map lower c.loop-w.rest.now)) (sym (drop_all c.loop-w.w-index c.args.word.now c.loop-w-test.false)) ∙ c.loop-w.invariant
