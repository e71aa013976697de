use Rattle.fated_walks.proofs.ComingCalls.{calls_come}
use Rattle.fated_walks.proofs.laws.calls_come.Goals as goal

pub returns : goal.returns
returns c = calls_come
