use Rattle.atx_sites.proofs.Changing.{unchanged}
use Rattle.atx_sites.proofs.Holding.{holds_taken}
use Rattle.atx_sites.proofs.node_site.NodeSiteShowing.show.Goals as goal

pub returns-then-not-self-clause-changes : goal.returns-then-not-self-clause-changes
returns-then-not-self-clause-changes g c = unchanged _ _

pub returns-clause-holds : goal.returns-clause-holds
returns-clause-holds g c = λ h. holds_taken g.S.Stream.AsRawFd.raw_fd g.S.Listener.AsRawFd.raw_fd _ _ c.args.self.now.connection c.show.new.connection c.args.self.now.departures c.show.new.departures c.show.ensures.later c.show.ensures.came c.show.ensures.bounded c.show.ensures.changes c.show.ensures.within c.show.ensures.timed c.show.ensures.names h
