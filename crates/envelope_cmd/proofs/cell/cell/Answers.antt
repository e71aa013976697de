use Rattle.envelope_cmd.specs.Cells.{IsCellOf}
use Rattle.envelope_cmd.proofs.Uniqueness.{only_one}
use Rattle.envelope_cmd.proofs.cell.cell.Goals as goal

pub returns-clause-only : goal.returns-clause-only
returns-clause-only c =
    only_one (IsCellOf c.args.bytes.now c.args.state) (c.one_report_is_printed.ensures.cells c.args.bytes.now c.args.state) c.report.result c.report.ensures
