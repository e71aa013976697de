use Rattle.xml_grammar.proofs.WholeLaws.{spells_one}
use Rattle.xml_grammar.proofs.laws.one_text_spells_one_tree.Goals as goal

pub returns : goal.returns
returns c = spells_one
