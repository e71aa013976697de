use Rattle.atx_sites.proofs.Changing.{unchanged}
use Rattle.atx_sites.proofs.Comings.{came_waited, served_still}
use Rattle.atx_sites.proofs.showing.show.Goals as goal

pub returns-in_default-clause-changes : goal.returns-in_default-clause-changes
returns-in_default-clause-changes g c = unchanged _ _

pub returns-clause-came : goal.returns-clause-came
returns-clause-came g c = λ h. (
  came_waited g.S.Stream.AsRawFd.raw_fd g.S.Listener.AsRawFd.raw_fd _ _ c.args.connection.now c.show_until.new.waiting c.in-Some.listener c.in-Some.is c.show_until.ensures.came h,
  served_still g.S.Stream.AsRawFd.raw_fd g.S.Listener.AsRawFd.raw_fd _ _ _ _ h.1 c.show_until.ensures.later,
)

pub returns-clause-changes : goal.returns-clause-changes
returns-clause-changes g c = c.show_until.ensures.changes _ _ (unchanged _ _)
