use Rattle.envelope_cmd.proofs.EnvelopeReports.{told}
use Rattle.envelope_cmd.proofs.cell.report.Goals as goal

pub returns-in-Ok : goal.returns-in-Ok
returns-in-Ok c =
    told c.args.bytes.now c.args.state c.decode.result c.in-Ok.arrival c.met.result c.in-Ok.is c.decode.ensures.ok c.met.ensures
