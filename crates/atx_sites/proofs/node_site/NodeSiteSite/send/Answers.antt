use Rattle.atx_sites.proofs.Holding.{holds_served, sent_came, sent_later}
use Rattle.atx_sites.proofs.Receipts.{on_link}
use Rattle.atx_sites.proofs.SilentMachines.{gave, stays_err}
use Rattle.atx_sites.proofs.Turns.{kept_counted}
use Rattle.atx_sites.proofs.node_site.NodeSiteSite.send.Goals as goal

pub returns-clause-shut : goal.returns-clause-shut
returns-clause-shut g c h = stays_err _ _ c.counted.ensures.ok (c.send.ensures.shut h)

pub returns-clause-call : goal.returns-clause-call
returns-clause-call g c = gave _ _ _ _ (on_link c.args.self.now.disk _ _ _ _ _ _ _ c.counted.ensures.cause)

pub returns-clause-kept : goal.returns-clause-kept
returns-clause-kept g c = kept_counted _ _ _ _ _ _ _ _ c.counted.ensures.as_was c.counted.ensures.ok c.send.ensures.kept

pub returns-clause-holds : goal.returns-clause-holds
returns-clause-holds g c = λ h.
    holds_served g.S.Stream.AsRawFd.raw_fd g.S.Listener.AsRawFd.raw_fd _ _ c.args.self.now.connection c.send.new.connection c.args.self.now.departures
    (sent_later g.S.Stream.AsRawFd.raw_fd g.S.Listener.AsRawFd.raw_fd c.args.bytes.now c.send.result c.args.self.now.connection.served c.send.new.connection.served _ _ c.send.ensures.kept)
    (λ listener came. sent_came g.S.Stream.AsRawFd.raw_fd g.S.Listener.AsRawFd.raw_fd listener c.args.bytes.now c.send.result c.args.self.now.connection.served c.send.new.connection.served _ _ c.send.ensures.kept came)
    c.send.ensures.same h
