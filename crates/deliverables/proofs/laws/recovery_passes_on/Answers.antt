use Rattle.deliverables.proofs.Passing.{recovery}
use Rattle.deliverables.proofs.laws.recovery_passes_on.Goals as goal

pub returns : goal.returns
returns c = recovery
