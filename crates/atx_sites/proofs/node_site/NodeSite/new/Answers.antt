use Rattle.atx_sites.proofs.Holding.{holds_new}
use Rattle.atx_sites.proofs.node_site.NodeSite.new.Goals as goal

pub returns-clause-holds : goal.returns-clause-holds
returns-clause-holds g c = holds_new g.S.Stream.AsRawFd.raw_fd g.S.Listener.AsRawFd.raw_fd _ c.new-2.result c.new-3.result c.new-2.ensures.shut c.new-2.ensures.aside c.new-3.ensures
