use Rattle.deliverables.proofs.OwnEndpoints.{own_is_deliverable}
use Rattle.deliverables.proofs.laws.nodes_own_is_deliverable.Goals as goal

pub returns : goal.returns
returns c = own_is_deliverable
