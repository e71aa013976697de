use Rattle.deliverables.proofs.TakenMessages.{taken}
use Rattle.deliverables.proofs.laws.what_is_taken_is_decoded.Goals as goal

pub returns : goal.returns
returns c = taken c.one_text_spells_one_tree.ensures c.what_is_posted_reaches_the_book.ensures.addressed
