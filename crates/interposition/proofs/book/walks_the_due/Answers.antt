use Rattle.interposition.proofs.DueWalks.{walks_the_due}
use Rattle.interposition.proofs.book.walks_the_due.Goals as goal

pub returns : goal.returns
returns c = walks_the_due c.ids_rise.ensures
