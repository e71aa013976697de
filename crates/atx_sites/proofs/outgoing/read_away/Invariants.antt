use Rattle.std.proofs.Common.{ℕ, List, ◌≤◌, length}
use Rattle.std.specs.declared.net.SocketAddr.{SocketAddr}
use Rattle.atx_sites.specs.Departures.{Goes}
use Rattle.atx_sites.proofs.outgoing.read_away.Given as goal

abbrev pub invariant-reads : goal.invariant-reads
invariant-reads g l =
    (addresses : List SocketAddr) (bytes : List ℕ) (k : ℕ) → length bytes ≤ k
    → Goes addresses bytes (g.S.Stream.AsRawFd.raw_fd l.stream) k (g.S.System.calls l.fn.system) (g.S.Stream.AsRawFd.raw_fd l.stream) k (g.S.System.calls l.system)
