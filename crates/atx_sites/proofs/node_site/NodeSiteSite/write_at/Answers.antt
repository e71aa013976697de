use Rattle.atx_sites.proofs.FilesLater.{writes_later}
use Rattle.atx_sites.proofs.Holding.{holds_later}
use Rattle.std.proofs.Common.{ap}
use Rattle.atx_sites.specs.declared.disk.Disk.{Disk}
use Rattle.atx_sites.proofs.SilentMachines.{wrote, on_disk}
use Rattle.atx_sites.proofs.node_site.NodeSiteSite.write_at.Goals as goal

pub returns-clause-call : goal.returns-clause-call
returns-clause-call g c = wrote _ _ _ _ _ _ (on_disk c.args.self.now.disk c.write_at.new.disk _ _ _ _ _ _ c.write_at.ensures.cause (ap (λ (d : Disk _). d.gate) c.write_at.ensures.same))

pub returns-clause-holds : goal.returns-clause-holds
returns-clause-holds g c = λ h. holds_later g.S.Stream.AsRawFd.raw_fd g.S.Listener.AsRawFd.raw_fd _ _ c.args.self.now.connection c.args.self.now.departures (writes_later _ _ _ _ _ _ c.write_at.ensures.calls) h
