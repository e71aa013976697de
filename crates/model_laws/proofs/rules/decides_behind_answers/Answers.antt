use Rattle.model_laws.proofs.RecordRules.{decides_behind_answers}
use Rattle.model_laws.proofs.rules.decides_behind_answers.Goals as goal

pub returns : goal.returns
returns c = decides_behind_answers
