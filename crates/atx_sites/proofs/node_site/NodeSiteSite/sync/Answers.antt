use Rattle.atx_sites.proofs.FilesLater.{syncs_later}
use Rattle.atx_sites.proofs.Holding.{holds_later}
use Rattle.atx_sites.proofs.SilentMachines.{synced, on_disk}
use Rattle.atx_sites.proofs.node_site.NodeSiteSite.sync.Goals as goal

pub returns-clause-call : goal.returns-clause-call
returns-clause-call g c = synced _ _ _ _ (on_disk c.args.self.now.disk c.sync.new.disk _ _ _ _ _ _ c.sync.ensures.cause c.sync.ensures.gate)

pub returns-clause-holds : goal.returns-clause-holds
returns-clause-holds g c = λ h. holds_later g.S.Stream.AsRawFd.raw_fd g.S.Listener.AsRawFd.raw_fd _ _ c.args.self.now.connection c.args.self.now.departures (syncs_later _ _ _ _ c.sync.ensures.calls) h
