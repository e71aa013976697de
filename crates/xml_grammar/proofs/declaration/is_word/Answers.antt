use Rattle.std.proofs.Common.{sym, ap, ◌∙◌}
use Rattle.std.proofs.lemmas.List.{drop_all}
use Rattle.xml_grammar.specs.Characters.{same}
use Rattle.xml_grammar.proofs.declaration.is_word.Goals as goal

pub returns : goal.returns
returns c = c.is_end.ensures ∙ ap (same c.loop-w.rest.now) (sym (drop_all c.loop-w.w-index c.args.word.now c.loop-w-test.false)) ∙ c.loop-w.invariant
