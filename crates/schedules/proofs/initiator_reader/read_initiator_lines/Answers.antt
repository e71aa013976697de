use Rattle.schedules.proofs.InitiatorWholes.{are_asked}
use Rattle.schedules.proofs.initiator_reader.read_initiator_lines.Goals as goal

pub returns-clause-bounds : goal.returns-clause-bounds
returns-clause-bounds c = are_asked c.args.text.now c.read_all.result c.read_all.ensures
