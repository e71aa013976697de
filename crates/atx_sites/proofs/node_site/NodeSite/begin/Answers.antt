use Rattle.atx_sites.proofs.Holding.{holds_begun}
use Rattle.atx_sites.proofs.node_site.NodeSite.begin.Goals as goal

pub returns-clause-holds : goal.returns-clause-holds
returns-clause-holds g c = λ h.
    holds_begun g.S.Stream.AsRawFd.raw_fd g.S.Listener.AsRawFd.raw_fd _ c.args.self.now.connection c.begin.new.connection c.args.self.now.departures c.begin.new.departures c.begin.ensures.aside c.begin.ensures.same c.begin.ensures.leaving h
