use Rattle.std.proofs.Common.{refl, subst, sym}
use Rattle.atx_sites.specs.Resends.{IsTime}
use Rattle.atx_sites.proofs.Comings.{late_by}
use Rattle.atx_sites.proofs.Holding.{holds_later}
use Rattle.atx_sites.proofs.node_site.NodeSiteSite.now.Goals as goal

pub returns-in-Ok-clause-clock : goal.returns-in-Ok-clause-clock
returns-in-Ok-clause-clock g c = (c.monotonic.result, c.monotonic.ensures, subst (λ got. IsTime got c.millis.result) (sym c.in-Ok.is) c.millis.ensures)

pub returns-in-Err-clause-clock : goal.returns-in-Err-clause-clock
returns-in-Err-clause-clock g c = (c.monotonic.result, c.monotonic.ensures, subst (λ got. IsTime got 0) (sym c.in-Err.is) refl)

pub returns-in-Ok-clause-holds : goal.returns-in-Ok-clause-holds
returns-in-Ok-clause-holds g c = λ h. holds_later g.S.Stream.AsRawFd.raw_fd g.S.Listener.AsRawFd.raw_fd _ _ c.args.self.now.connection c.args.self.now.departures (late_by _ _ _ c.monotonic.ensures) h

pub returns-in-Err-clause-holds : goal.returns-in-Err-clause-holds
returns-in-Err-clause-holds g c = λ h. holds_later g.S.Stream.AsRawFd.raw_fd g.S.Listener.AsRawFd.raw_fd _ _ c.args.self.now.connection c.args.self.now.departures (late_by _ _ _ c.monotonic.ensures) h
