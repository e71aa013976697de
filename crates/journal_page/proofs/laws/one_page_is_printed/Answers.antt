use Rattle.journal_page.proofs.OnePage.{one_is_printed}
use Rattle.journal_page.proofs.laws.one_page_is_printed.Goals as goal

pub returns : goal.returns
returns c = one_is_printed c.are_apart.ensures
