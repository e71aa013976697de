use Rattle.std.proofs.Common.{refl}
use Rattle.journal_at.proofs.SyncedFiles.{settles_cut, settles_done}
use Rattle.journal_at.proofs.load.settle.Goals as goal

pub returns-in-Err : goal.returns-in-Err
returns-in-Err g c = settles_cut c.sync.result _ _ _ _ _ c.in-Err.is refl c.sync.ensures

pub returns-in-Ok : goal.returns-in-Ok
returns-in-Ok g c = settles_done c.sync.result _ _ _ _ _ c.in-Ok.is c.sync.ensures c.sync-in-Ok.ensures
