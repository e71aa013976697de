use Rattle.model_laws.proofs.ReachedWorlds.{run_reached}
use Rattle.model_laws.proofs.rules.runs_are_reached.Goals as goal

pub returns : goal.returns
returns c = run_reached
