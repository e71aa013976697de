-- What can be delivered is passed on.
use Rattle.deliverables.specs.Deliverables.{deliverable}
use Rattle.provenance.specs.Provenance.{RecoveryPassesOn, StepsPassOn}
use Rattle.provenance.proofs.Recoveries.{recovery_passes_on}
use Rattle.provenance.proofs.Steps.{steps_pass_on}

pub steps : StepsPassOn deliverable
steps = steps_pass_on deliverable

pub recovery : RecoveryPassesOn deliverable
recovery = recovery_passes_on deliverable
