use Rattle.decision_log.specs.KeptState.{known}
use Rattle.recovery.proofs.StartRecords.{stand_for}
use Rattle.recovery.proofs.recover.recover.Goals as goal

pub returns : goal.returns
returns c = λ rs e.
    c.recover.ensures _ (stand_for c.grows_by_one.ensures (known c.args.kept.now) rs c.args.start c.live.result.now c.done.result.now c.live.ensures c.done.ensures e c.requires.later)
