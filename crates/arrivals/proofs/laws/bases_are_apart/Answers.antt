use Rattle.arrivals.proofs.Bases.{apart}
use Rattle.arrivals.proofs.laws.bases_are_apart.Goals as goal

pub returns : goal.returns
returns c = apart
