use Rattle.xml_grammar.proofs.Examples.{at_limits, fronts_spelled, lines_spelled, markup_spelled, no_characters_spelled, no_fronts_spelled, no_markup_spelled, no_prefixes_spelled, prefixes_spelled, values_spelled}
use Rattle.xml_grammar.proofs.laws.worked_examples.Goals as goal

pub returns-clause-markup : goal.returns-clause-markup
returns-clause-markup c = (markup_spelled, no_markup_spelled)

pub returns-clause-fronts : goal.returns-clause-fronts
returns-clause-fronts c = (fronts_spelled, no_fronts_spelled)

pub returns-clause-lines : goal.returns-clause-lines
returns-clause-lines c = (lines_spelled, values_spelled)

pub returns-clause-prefixes : goal.returns-clause-prefixes
returns-clause-prefixes c = (prefixes_spelled, no_prefixes_spelled)

pub returns-clause-characters : goal.returns-clause-characters
returns-clause-characters c = no_characters_spelled

pub returns-clause-limits : goal.returns-clause-limits
returns-clause-limits c = at_limits
