use Rattle.model_laws.proofs.RecoveryLaws.{recovers_the_live}
use Rattle.model_laws.proofs.rules.recovers_the_live.Goals as goal

pub returns : goal.returns
returns c = recovers_the_live
