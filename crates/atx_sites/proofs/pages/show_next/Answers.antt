use Rattle.atx_sites.proofs.Changing.{changes_later}
use Rattle.atx_sites.proofs.Comings.{have_still}
use Rattle.atx_sites.proofs.pages.show_next.Goals as goal

pub returns-clause-came : goal.returns-clause-came
returns-clause-came g c = λ listener h. have_still g.S.Stream.AsRawFd.raw_fd listener _ _ _ (c.ready.ensures.came g.S.Stream.AsRawFd.raw_fd listener _ h) c.show.ensures.later

pub returns-clause-changes : goal.returns-clause-changes
returns-clause-changes g c = λ first start clock h. changes_later first start _ _ _ (c.ready.ensures.changes first start _ clock h) c.show.ensures.later
