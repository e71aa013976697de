use Rattle.schedules.proofs.Wholes.{is_written}
use Rattle.schedules.proofs.laws.what_is_read_is_written.Goals as goal

pub returns : goal.returns
returns c = is_written
