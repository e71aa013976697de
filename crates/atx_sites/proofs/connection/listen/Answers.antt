use Rattle.atx_sites.proofs.Comings.{late_by}
use Rattle.atx_sites.proofs.connection.listen.Goals as goal

pub returns-in-Ok-listen-clause-later : goal.returns-in-Ok-listen-clause-later
returns-in-Ok-listen-clause-later g c = late_by _ _ _ c.listen.ensures

pub returns-in-Err-clause-later : goal.returns-in-Err-clause-later
returns-in-Err-clause-later g c = late_by _ _ _ c.listen.ensures
