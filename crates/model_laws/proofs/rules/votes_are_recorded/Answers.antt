use Rattle.model_laws.proofs.RecordRules.{votes_are_recorded}
use Rattle.model_laws.proofs.rules.votes_are_recorded.Goals as goal

pub returns : goal.returns
returns c = votes_are_recorded
