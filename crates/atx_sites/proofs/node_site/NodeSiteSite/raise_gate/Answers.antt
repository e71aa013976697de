use Rattle.atx_sites.proofs.FilesLater.{raises_later}
use Rattle.atx_sites.proofs.Holding.{holds_later}
use Rattle.atx_sites.proofs.SilentMachines.{raised, on_gate}
use Rattle.atx_sites.proofs.node_site.NodeSiteSite.raise_gate.Goals as goal

pub returns-clause-call : goal.returns-clause-call
returns-clause-call g c = raised _ _ _ _ _ (on_gate c.args.self.now.disk c.raise_gate.new.disk _ _ _ _ _ _ c.raise_gate.ensures.cause c.raise_gate.ensures.disk)

pub returns-clause-holds : goal.returns-clause-holds
returns-clause-holds g c = λ h. holds_later g.S.Stream.AsRawFd.raw_fd g.S.Listener.AsRawFd.raw_fd _ _ c.args.self.now.connection c.args.self.now.departures (raises_later _ _ _ _ _ c.raise_gate.ensures.calls) h
