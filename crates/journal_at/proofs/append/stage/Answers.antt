use Rattle.std.proofs.Common.{refl}
use Rattle.journal_at.proofs.SyncedWrites.{laid_cut, laid_done}
use Rattle.journal_at.proofs.append.stage.Goals as goal

pub returns-in-Err : goal.returns-in-Err
returns-in-Err g c = laid_cut c.args.file c.args.at c.args.bytes.now c.write_at.result _ _ _ _ _ c.in-Err.is refl c.write_at.ensures

pub returns-in-Ok : goal.returns-in-Ok
returns-in-Ok g c = laid_done c.args.file c.args.at c.args.bytes.now c.write_at.result _ c.sync.result _ _ _ c.in-Ok.is c.write_at.ensures c.sync.ensures
