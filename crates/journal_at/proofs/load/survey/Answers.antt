use Rattle.journal_at.proofs.SyncedFiles.{fails_early, surveyed}
use Rattle.journal_at.proofs.load.survey.Goals as goal

pub returns-in-Ok : goal.returns-in-Ok
returns-in-Ok g c = surveyed c.look_both.result c.settle.result _ _ _ _ c.in-Ok.is c.settle.ensures c.look_both.ensures.quiet c.look_both.ensures.cause c.look_both.ensures.first c.look_both.ensures.second

pub returns-in-Err : goal.returns-in-Err
returns-in-Err g c = fails_early c.settle.result _ _ _ c.in-Err.is c.settle.ensures
