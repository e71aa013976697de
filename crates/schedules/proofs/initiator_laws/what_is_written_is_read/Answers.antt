use Rattle.schedules.proofs.InitiatorRoundtrip.{is_read}
use Rattle.schedules.proofs.initiator_laws.what_is_written_is_read.Goals as goal

pub returns : goal.returns
returns c = is_read
