use Rattle.model_laws.proofs.Singles.{commit_is_undone}
use Rattle.model_laws.proofs.steps.commit_is_undone.Goals as goal

pub returns : goal.returns
returns c = commit_is_undone
