use Rattle.model_laws.proofs.Singles.{outcome_is_kept}
use Rattle.model_laws.proofs.steps.outcome_is_kept.Goals as goal

pub returns : goal.returns
returns c = outcome_is_kept
