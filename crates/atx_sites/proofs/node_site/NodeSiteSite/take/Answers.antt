use Rattle.site_model.specs.declared.site.Taken.TheVariants.{Opened}
use Rattle.site_model.specs.declared.source.Failed.{Failed}
use Rattle.atx_sites.proofs.Holding.{holds_taken}
use Rattle.atx_sites.proofs.Turns.{in_time_counted, on_time_counted}
use Rattle.atx_sites.proofs.Attachings.{opened, unopened}
use Rattle.atx_sites.proofs.node_site.NodeSiteSite.take.Goals as goal

pub returns-in-Ok-clause-call : goal.returns-in-Ok-clause-call
returns-in-Ok-clause-call g c = opened c.args.self.now.disk _ _ _ _ _ _ _ _ c.in-Ok.ensures.cause c.saturating_add-self.ensures

pub returns-in-Err-clause-call : goal.returns-in-Err-clause-call
returns-in-Err-clause-call g c = unopened c.args.self.now.disk _ _ _ _ _ _ _ c.in-Err.ensures.cause

pub returns-in-Ok-clause-holds : goal.returns-in-Ok-clause-holds
returns-in-Ok-clause-holds g c = λ h. holds_taken g.S.Stream.AsRawFd.raw_fd g.S.Listener.AsRawFd.raw_fd _ _ c.args.self.now.connection c.take-opened.new.connection c.args.self.now.departures c.take-opened.new.departures c.take-opened.ensures.later c.take-opened.ensures.came c.take-opened.ensures.bounded c.take-opened.ensures.changes c.take-opened.ensures.within c.take-opened.ensures.timed c.take-opened.ensures.names h

pub returns-in-Err-clause-holds : goal.returns-in-Err-clause-holds
returns-in-Err-clause-holds g c = λ h. holds_taken g.S.Stream.AsRawFd.raw_fd g.S.Listener.AsRawFd.raw_fd _ _ c.args.self.now.connection c.take-opened.new.connection c.args.self.now.departures c.take-opened.new.departures c.take-opened.ensures.later c.take-opened.ensures.came c.take-opened.ensures.bounded c.take-opened.ensures.changes c.take-opened.ensures.within c.take-opened.ensures.timed c.take-opened.ensures.names h

pub returns-in-Ok-clause-in_time : goal.returns-in-Ok-clause-in_time
returns-in-Ok-clause-in_time g c = in_time_counted Failed _ Opened c.take-opened.result _ _ _ _ c.in-Ok.ensures.ok c.take-opened.ensures.in_time

pub returns-in-Ok-clause-pace : goal.returns-in-Ok-clause-pace
returns-in-Ok-clause-pace g c = on_time_counted Failed _ Opened c.take-opened.result _ _ _ _ c.in-Ok.ensures.ok c.take-opened.ensures.pace
