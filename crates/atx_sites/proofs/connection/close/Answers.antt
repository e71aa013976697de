use Rattle.atx_sites.proofs.Comings.{as_late}
use Rattle.atx_sites.proofs.connection.close.Goals as goal

pub returns-in_default-clause-later : goal.returns-in_default-clause-later
returns-in_default-clause-later g c = as_late _
