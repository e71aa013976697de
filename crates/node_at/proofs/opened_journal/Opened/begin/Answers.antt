use Rattle.std.proofs.Common.{arith}
use Rattle.decision_log.specs.KeptState.{known}
use Rattle.node_at.specs.Starts.{carried}
use Rattle.node_at.proofs.StartRecords.{begins_not, begins_on, kept_carried, started_long}
use Rattle.node_at.proofs.opened_journal.Opened.begin.Goals as goal

pub returns-in-Ok : goal.returns-in-Ok
returns-in-Ok g c = λ rs o kept e fits.
    let version = c.args.self.now.version in
    let more = carried version rs in
    let long = started_long version rs in
    let first = c.in-Ok.ensures.carries rs o kept (omega (arith, long, fits)) in
    begins_on rs c.args.incarnation c.record_start.result c.args.self.now (record { version = version; journal = c.record_start.new.journal; kept = c.record_start.new.kept }) c.carry.new.journal _ _ _ e first
    c.in-Ok.ensures.live c.in-Ok.ensures.limit (c.record_start.ensures.carries more first.holds (omega (arith, long, fits, c.in-Ok.ensures.limit)))
    (c.record_start.ensures.kept more (kept_carried version rs (known c.args.self.now.kept) c.shrinks_the_same.ensures kept)) c.record_start.ensures.live c.record_start.ensures.limit
    (c.in-Ok.ensures.journal o.sure) c.record_start.ensures.continued

pub returns-in-Err : goal.returns-in-Err
returns-in-Err g c = λ rs o kept e fits.
    let version = c.args.self.now.version in
    let long = started_long version rs in
    begins_not rs c.in-Err.fault c.args.self.now (record { version = version; journal = c.carry.new.journal; kept = c.args.self.now.kept }) _ _
    (c.in-Err.ensures.carries rs o kept (omega (arith, long, fits))) c.in-Err.ensures.limit
