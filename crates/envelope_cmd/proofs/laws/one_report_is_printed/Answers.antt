use Rattle.envelope_cmd.proofs.Uniqueness.{cells_one}
use Rattle.envelope_cmd.proofs.laws.one_report_is_printed.Goals as goal

pub returns-clause-cells : goal.returns-clause-cells
returns-clause-cells c = cells_one c.one_text_spells_one_tree.ensures c.what_is_posted_arrives.ensures.one
