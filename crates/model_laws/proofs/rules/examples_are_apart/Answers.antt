use Rattle.model_laws.proofs.rules.examples_are_apart.Goals as goal
use Rattle.model_laws.proofs.Addresses.{examples_apart}

pub returns : goal.returns
returns c = examples_apart
