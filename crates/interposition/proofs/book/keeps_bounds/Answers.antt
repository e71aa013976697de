use Rattle.interposition.proofs.ModelSteps.{keeps_bounds}
use Rattle.interposition.proofs.book.keeps_bounds.Goals as goal

pub returns : goal.returns
returns c = keeps_bounds c.records_are_well_formed.ensures
