use Rattle.audit_cmd.proofs.LinesRead.{judged}
use Rattle.audit_cmd.proofs.report.audited.Goals as goal

pub returns-in_ok-audited-in-Ok : goal.returns-in_ok-audited-in-Ok
returns-in_ok-audited-in-Ok c =
    judged c.args.lines.now c.in-Ok.journals.items c.as_slice.result.now c.in_ok-verdict-in-Ok.verdict c.in_ok-audited-in-Ok.audited c.in-Ok.ensures.ok c.as_slice.ensures.value
    c.in_ok-verdict-in-Ok.ensures c.in_ok-audited-in-Ok.ensures
