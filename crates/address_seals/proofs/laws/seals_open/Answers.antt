use Rattle.address_seals.proofs.Ends.{opens}
use Rattle.address_seals.proofs.laws.seals_open.Goals as goal

pub returns : goal.returns
returns c = opens
