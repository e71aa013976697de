use Rattle.atx_sites.proofs.Comings.{came_accepted, late_by}
use Rattle.atx_sites.proofs.waiting.accept_one.Goals as goal

pub returns-in-Ok-clause-came : goal.returns-in-Ok-clause-came
returns-in-Ok-clause-came g c = came_accepted _ _ _ _ _ _ c.accept.ensures c.in-Ok.is

pub returns-in-Ok-clause-later : goal.returns-in-Ok-clause-later
returns-in-Ok-clause-later g c = late_by _ _ _ c.accept.ensures

pub returns-in-Err-clause-later : goal.returns-in-Err-clause-later
returns-in-Err-clause-later g c = late_by _ _ _ c.accept.ensures

pub returns-in-Err-2-clause-later : goal.returns-in-Err-2-clause-later
returns-in-Err-2-clause-later g c = late_by _ _ _ c.accept.ensures

pub returns-in-Err-3-clause-later : goal.returns-in-Err-3-clause-later
returns-in-Err-3-clause-later g c = late_by _ _ _ c.accept.ensures
