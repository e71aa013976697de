use Rattle.atx_sites.proofs.Holding.{holds_served}
use Rattle.atx_sites.proofs.Receipts.{bounded, received}
use Rattle.atx_sites.proofs.SilentMachines.{stays_err}
use Rattle.atx_sites.proofs.Turns.{gives_counted}
use Rattle.atx_sites.proofs.node_site.NodeSiteSite.receive.Goals as goal

pub returns-clause-shut : goal.returns-clause-shut
returns-clause-shut g c h = stays_err _ _ c.counted.ensures.ok (c.receive.ensures.shut h)

pub returns-clause-call : goal.returns-clause-call
returns-clause-call g c =
    received c.args.self.now.disk _ _ _ _ _ _ _ _ (bounded _ _ _ c.counted.ensures.ok c.receive.ensures.bound) c.counted.ensures.cause c.counted.ensures.exact

pub returns-clause-gives : goal.returns-clause-gives
returns-clause-gives g c = gives_counted _ _ _ _ _ c.counted.ensures.as_was c.counted.ensures.ok c.receive.ensures.gives

pub returns-clause-holds : goal.returns-clause-holds
returns-clause-holds g c = λ h. holds_served g.S.Stream.AsRawFd.raw_fd g.S.Listener.AsRawFd.raw_fd _ _ c.args.self.now.connection c.receive.new.connection c.args.self.now.departures c.receive.ensures.later c.receive.ensures.came c.receive.ensures.same h
