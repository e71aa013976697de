use Rattle.atx_sites.proofs.Comings.{later_still}
use Rattle.atx_sites.proofs.Holding.{holds_later, holds_listening}
use Rattle.std.proofs.Common.{refl}
use Rattle.atx_sites.proofs.Attachings.{attaches, failed_tally, held, listens, no_more, on_failed, on_passed, passed_tally, stands}
use Rattle.atx_sites.proofs.node_site.NodeSiteSite.attach.Goals as goal

pub returns-then-is_err-clause-tallied : goal.returns-then-is_err-clause-tallied
returns-then-is_err-clause-tallied g c =
    (failed_tally c.args.self.now.disk.disk c.open.new.disk.disk c.open.result c.if-is_err.ensures.value c.open.ensures.counted, refl)

pub returns-then-is_err-clause-call : goal.returns-then-is_err-clause-call
returns-then-is_err-clause-call g c =
    let rose = on_failed c.open.result c.if-is_err.ensures.value c.open.ensures.cause.failed in
    attaches c.args.self.now.disk c.open.new.disk _ _ _ _ _ _ _ _ _ _ c.open.ensures.cause.later (stands _) rose (no_more _) c.open.ensures.gate

pub returns-in-Ok-clause-system : goal.returns-in-Ok-clause-system
returns-in-Ok-clause-system g c =
    let both = held g.S.File.AsRawFd.raw_fd c.args.journal.now c.open.result c.open.new.disk (g.S.System.calls c.args.self.now.system) (g.S.System.calls c.open.new.system) c.if-is_err.ensures.value c.open.ensures.calls in
    (g.S.System.calls c.open.new.system, both, listens c.args.listen.now _ _ _ c.listen-listening.result _ c.in-Ok.ensures.ok c.listen-listening.ensures.calls)

pub returns-in-Ok-clause-sure : goal.returns-in-Ok-clause-sure
returns-in-Ok-clause-sure g c = on_passed c.open.result c.if-is_err.ensures.value c.open.ensures.sure

pub returns-in-Ok-clause-tallied : goal.returns-in-Ok-clause-tallied
returns-in-Ok-clause-tallied g c =
    (passed_tally c.args.self.now.disk.disk c.open.new.disk.disk c.open.result c.if-is_err.ensures.value c.open.ensures.counted, c.in-Ok.ensures.exact)

pub returns-in-Ok-clause-call : goal.returns-in-Ok-clause-call
returns-in-Ok-clause-call g c =
    attaches c.args.self.now.disk c.open.new.disk _ _ _ _ _ _ _ _ _ _ c.open.ensures.cause.later c.in-Ok.ensures.cause.later tt c.and-self.ensures c.open.ensures.gate

pub returns-in-Err-clause-tallied : goal.returns-in-Err-clause-tallied
returns-in-Err-clause-tallied g c =
    (passed_tally c.args.self.now.disk.disk c.open.new.disk.disk c.open.result c.if-is_err.ensures.value c.open.ensures.counted, c.in-Err.ensures.exact)

pub returns-in-Err-clause-call : goal.returns-in-Err-clause-call
returns-in-Err-clause-call g c =
    attaches c.args.self.now.disk c.open.new.disk _ _ _ _ _ _ _ _ _ _ c.open.ensures.cause.later c.in-Err.ensures.cause.later c.in-Err.ensures.cause.failed (no_more _) c.open.ensures.gate

pub returns-then-is_err-clause-holds : goal.returns-then-is_err-clause-holds
returns-then-is_err-clause-holds g c = λ h. holds_later g.S.Stream.AsRawFd.raw_fd g.S.Listener.AsRawFd.raw_fd _ _ c.args.self.now.connection c.args.self.now.departures c.open.ensures.later h

pub returns-in-Ok-clause-holds : goal.returns-in-Ok-clause-holds
returns-in-Ok-clause-holds g c = λ h.
    holds_listening g.S.Stream.AsRawFd.raw_fd g.S.Listener.AsRawFd.raw_fd _ _ c.args.self.now.connection c.listen-listening.new.connection c.args.self.now.departures c.listen-listening.new.departures
    (later_still _ _ _ c.open.ensures.later c.listen-listening.ensures.later) c.listen-listening.ensures.came c.listen-listening.ensures.aside c.listen-listening.ensures.leaving h

pub returns-in-Err-clause-holds : goal.returns-in-Err-clause-holds
returns-in-Err-clause-holds g c = λ h.
    holds_listening g.S.Stream.AsRawFd.raw_fd g.S.Listener.AsRawFd.raw_fd _ _ c.args.self.now.connection c.listen-listening.new.connection c.args.self.now.departures c.listen-listening.new.departures
    (later_still _ _ _ c.open.ensures.later c.listen-listening.ensures.later) c.listen-listening.ensures.came c.listen-listening.ensures.aside c.listen-listening.ensures.leaving h
