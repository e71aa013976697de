use Rattle.atx_sites.proofs.Pausing.{looks_later, pauses_later}
use Rattle.atx_sites.proofs.looking.wait_leaving.Goals as goal

pub returns-in-Ok : goal.returns-in-Ok
returns-in-Ok g c = looks_later _ _ _ _ _ c.look.ensures

pub returns-in-Err : goal.returns-in-Err
returns-in-Err g c = pauses_later _ _ c.pause.ensures
