use Rattle.std.proofs.Common.{List}
use Rattle.std.specs.declared.net.SocketAddr.{SocketAddr}
use Rattle.atx_sites.specs.Departures.{Goes}
use Rattle.atx_sites.proofs.outgoing.write.Given as goal

abbrev pub invariant-pieces : goal.invariant-pieces
invariant-pieces g l =
    (addresses : List SocketAddr) → Goes addresses l.bytes (g.S.Stream.AsRawFd.raw_fd l.stream) l.fn.done (g.S.System.calls l.fn.system) (g.S.Stream.AsRawFd.raw_fd l.stream) l.done (g.S.System.calls l.system)
