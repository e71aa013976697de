use Rattle.atx_sites.proofs.FilesLater.{sized_later}
use Rattle.atx_sites.proofs.Holding.{holds_later}
use Rattle.std.proofs.Common.{ap}
use Rattle.atx_sites.specs.declared.disk.Disk.{Disk}
use Rattle.atx_sites.proofs.SilentMachines.{looked, on_disk, untold_ok}
use Rattle.atx_sites.proofs.node_site.NodeSiteSite.size.Goals as goal

pub returns-clause-is : goal.returns-clause-is
returns-clause-is g c = untold_ok _ _

pub returns-clause-call : goal.returns-clause-call
returns-clause-call g c = looked _ _ _ (on_disk c.args.self.now.disk c.size.new.disk _ _ _ _ _ _ c.size.ensures.cause (ap (λ (d : Disk _). d.gate) c.size.ensures.same))

pub returns-clause-holds : goal.returns-clause-holds
returns-clause-holds g c = λ h. holds_later g.S.Stream.AsRawFd.raw_fd g.S.Listener.AsRawFd.raw_fd _ _ c.args.self.now.connection c.args.self.now.departures (sized_later _ _ _ _ c.size.ensures.calls) h
