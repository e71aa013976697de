use Rattle.model_laws.proofs.NextIds.{makes_under_the_next_id}
use Rattle.model_laws.proofs.rules.makes_under_the_next_id.Goals as goal

pub returns : goal.returns
returns c = makes_under_the_next_id
