use Rattle.model_laws.proofs.Singles.{relates_to_is_compared}
use Rattle.model_laws.proofs.steps.relates_to_is_compared.Goals as goal

pub returns : goal.returns
returns c = relates_to_is_compared
