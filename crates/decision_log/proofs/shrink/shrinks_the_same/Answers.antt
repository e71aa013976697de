use Rattle.decision_log.proofs.ShrunkRecords.{shrinks_the_same}
use Rattle.decision_log.proofs.shrink.shrinks_the_same.Goals as goal

pub returns : goal.returns
returns c = shrinks_the_same c.recovers_the_compacted.ensures
