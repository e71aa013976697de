use Rattle.decision_log.proofs.RecordFolds.{grows_by_one}
use Rattle.decision_log.proofs.fold.grows_by_one.Goals as goal

pub returns : goal.returns
returns c = grows_by_one
