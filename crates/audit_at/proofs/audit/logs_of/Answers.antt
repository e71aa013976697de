use Rattle.audit_at.proofs.Decodings.{one_log_more}
use Rattle.audit_at.proofs.audit.logs_of.Goals as goal

pub loop-journal-preserved : goal.loop-journal-preserved
loop-journal-preserved c =
    one_log_more c.args.journals.now c.loop-journal.journal-index _ c.journal-item.result c.loop-journal.logs.items c.push_log.new.logs.items c.in_ok-log.log c.loop-journal-test.true c.journal-item.is
    c.in_ok-log.ensures c.in_ok-push_log.ensures c.loop-journal.invariant
