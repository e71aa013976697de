use Rattle.model_laws.proofs.RecordRules.{ends_are_undone}
use Rattle.model_laws.proofs.rules.ends_are_undone.Goals as goal

pub returns : goal.returns
returns c = ends_are_undone
