use Rattle.node_at.proofs.StartRecords.{cannot_same, gathered, load_failed}
use Rattle.node_at.proofs.opened_journal.open.Goals as goal

pub returns-in-Ok : goal.returns-in-Ok
returns-in-Ok g c = gathered c.gather.result c.in-Ok.journal c.in-Ok.found c.args.limit _ _ c.gather.ensures c.in-Ok.ensures

pub returns-in-Err : goal.returns-in-Err
returns-in-Err g c = cannot_same c.load_fault.ensures (load_failed c.in-Err.fault c.args.limit _ _ c.in-Err.ensures)
