use Rattle.model_laws.proofs.RecoveryLaws.{incarnations_rise}
use Rattle.model_laws.proofs.rules.incarnations_rise.Goals as goal

pub returns : goal.returns
returns c = incarnations_rise
