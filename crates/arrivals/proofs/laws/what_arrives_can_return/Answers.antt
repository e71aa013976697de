use Rattle.arrivals.proofs.ArrivalReturns.{can_return}
use Rattle.arrivals.proofs.laws.what_arrives_can_return.Goals as goal

pub returns : goal.returns
returns c = can_return
