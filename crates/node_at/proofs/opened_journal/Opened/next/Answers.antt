use Rattle.std.proofs.Common.{arith}
use Rattle.decision_log.specs.KeptState.{known}
use Rattle.node_at.proofs.StartRecords.{next_full, next_ok}
use Rattle.node_at.proofs.opened_journal.Opened.next.Goals as goal

pub returns-then-saturating_add-limit : goal.returns-then-saturating_add-limit
returns-then-saturating_add-limit c = λ rs k e.
    next_full c.args.self.now.version rs (known c.args.self.now.kept) c.start-last.result c.size.result c.args.limit c.start-last.ensures k c.if-last.false
    (omega arith) (c.size.ensures rs k e) (omega (arith, c.saturating_add.ensures, c.if-saturating_add-limit.true))

pub returns : goal.returns
returns c = λ rs k e.
    next_ok c.args.self.now.version rs (known c.args.self.now.kept) c.start-last.result c.size.result c.args.limit c.start-last.ensures k c.if-last.false
    (omega arith) (c.size.ensures rs k e) (omega (arith, c.saturating_add.ensures, c.if-saturating_add-limit.false)) (omega arith)
