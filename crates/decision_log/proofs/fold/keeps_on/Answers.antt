use Rattle.decision_log.proofs.Keepsakes.{keeps_on}
use Rattle.decision_log.proofs.fold.keeps_on.Goals as goal

pub returns : goal.returns
returns c = keeps_on
