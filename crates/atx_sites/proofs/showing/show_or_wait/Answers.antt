use Rattle.atx_sites.proofs.Comings.{later_still}
use Rattle.atx_sites.proofs.DepartureTimes.{all_timed_later}
use Rattle.atx_sites.proofs.showing.show_or_wait.Goals as goal

pub returns-clause-later : goal.returns-clause-later
returns-clause-later g c = later_still _ _ _ c.show_next.ensures.later c.wait_once.ensures.later

pub returns-clause-timed : goal.returns-clause-timed
returns-clause-timed g c = λ h. all_timed_later _ _ _ (c.show_next.ensures.timed h) c.wait_once.ensures.later
