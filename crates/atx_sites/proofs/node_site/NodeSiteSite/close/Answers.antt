use Rattle.atx_sites.proofs.Holding.{holds_closed}
use Rattle.atx_sites.proofs.node_site.NodeSiteSite.close.Goals as goal

pub returns-clause-holds : goal.returns-clause-holds
returns-clause-holds g c = λ h.
    holds_closed g.S.Stream.AsRawFd.raw_fd g.S.Listener.AsRawFd.raw_fd _ _ c.args.self.now.connection c.close.new.connection c.args.self.now.departures c.close.new.departures c.close.ensures.later c.close.ensures.shut c.close.ensures.same c.close.ensures.within c.close.ensures.timed c.close.ensures.names h
