use Rattle.interposition.proofs.Recoveries.{made_as_the_model}
use Rattle.interposition.proofs.book.Book.recover.Goals as goal

pub returns : goal.returns
returns c = made_as_the_model _ _ _ _ _ c.recovers_as_the_model.ensures c.made.ensures
