use Rattle.schedules.proofs.ScheduleRoundtrip.{is_read}
use Rattle.schedules.proofs.laws.what_is_written_is_read.Goals as goal

pub returns : goal.returns
returns c = is_read
