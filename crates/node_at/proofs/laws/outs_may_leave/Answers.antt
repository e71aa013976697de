use Rattle.node_at.proofs.OutPromises.{outs_may_leave}
use Rattle.node_at.proofs.laws.outs_may_leave.Goals as goal

pub returns : goal.returns
returns c = outs_may_leave c.steps_tell.ensures
