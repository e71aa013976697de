use Rattle.model_laws.proofs.Singles.{aborted_at_prepared}
use Rattle.model_laws.proofs.steps.aborted_at_prepared.Goals as goal

pub returns : goal.returns
returns c = aborted_at_prepared
