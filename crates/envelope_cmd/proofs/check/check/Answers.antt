use Rattle.envelope_cmd.specs.Checks.{IsCheckOf}
use Rattle.envelope_cmd.proofs.Uniqueness.{only_one}
use Rattle.envelope_cmd.proofs.check.check.Goals as goal

pub returns-clause-only : goal.returns-clause-only
returns-clause-only c =
    only_one (IsCheckOf c.args.bytes.now c.args.path.now) (c.one_report_is_printed.ensures.checks c.args.bytes.now c.args.path.now) c.report.result c.report.ensures
