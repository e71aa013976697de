use Rattle.model_laws.proofs.Singles.{volatile_rollback_answers}
use Rattle.model_laws.proofs.steps.volatile_rollback_answers.Goals as goal

pub returns : goal.returns
returns c = volatile_rollback_answers
