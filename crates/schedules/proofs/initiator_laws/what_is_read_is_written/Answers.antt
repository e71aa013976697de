use Rattle.schedules.proofs.InitiatorWholes.{is_written}
use Rattle.schedules.proofs.initiator_laws.what_is_read_is_written.Goals as goal

pub returns : goal.returns
returns c = is_written
