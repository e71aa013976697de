use Rattle.envelope_cmd.proofs.EnvelopeReports.{checked}
use Rattle.envelope_cmd.proofs.check.report.Goals as goal

pub returns-in-Ok : goal.returns-in-Ok
returns-in-Ok c =
    checked c.args.bytes.now c.args.path.now c.decode.result c.in-Ok.arrival c.checked.result c.in-Ok.is c.decode.ensures.ok c.checked.ensures
