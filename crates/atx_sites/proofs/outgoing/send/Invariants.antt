use Rattle.atx_sites.specs.Departures.{Goes}
use Rattle.atx_sites.proofs.outgoing.send.Given as goal

abbrev pub invariant-addresses : goal.invariant-addresses
invariant-addresses g l =
    Goes l.addresses l.bytes (g.S.Stream.AsRawFd.raw_fd l.fn.stream) l.fn.done (g.S.System.calls l.fn.system) (g.S.Stream.AsRawFd.raw_fd l.stream) l.done (g.S.System.calls l.system)
