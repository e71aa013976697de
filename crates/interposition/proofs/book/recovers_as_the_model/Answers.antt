use Rattle.interposition.proofs.Recoveries.{recovers_as_the_model}
use Rattle.interposition.proofs.book.recovers_as_the_model.Goals as goal

pub returns : goal.returns
returns c = recovers_as_the_model c.recovers_the_compacted.ensures
