use Rattle.schedules.proofs.Wholes.{is_schedule}
use Rattle.schedules.proofs.reader.read_schedule.Goals as goal

pub returns-clause-bounds : goal.returns-clause-bounds
returns-clause-bounds c = is_schedule c.args.text.now c.read_lines.result c.read_lines.ensures.ok
