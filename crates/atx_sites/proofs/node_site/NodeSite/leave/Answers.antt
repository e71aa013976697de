use Rattle.std.proofs.Common.{refl}
use Rattle.atx_sites.proofs.Holding.{holds_closed}
use Rattle.atx_sites.proofs.node_site.NodeSite.leave.Goals as goal

pub returns-clause-holds : goal.returns-clause-holds
returns-clause-holds g c = λ h.
    holds_closed g.S.Stream.AsRawFd.raw_fd g.S.Listener.AsRawFd.raw_fd _ _ c.close.new.connection _ c.close.new.departures c.leave.new.departures c.leave.ensures.later c.close.ensures.shut (refl, refl) c.leave.ensures.within c.leave.ensures.timed c.leave.ensures.names
    (holds_closed g.S.Stream.AsRawFd.raw_fd g.S.Listener.AsRawFd.raw_fd _ _ c.args.self.now.connection c.close.new.connection c.args.self.now.departures c.close.new.departures c.close.ensures.later c.close.ensures.shut c.close.ensures.same c.close.ensures.within c.close.ensures.timed c.close.ensures.names h)
