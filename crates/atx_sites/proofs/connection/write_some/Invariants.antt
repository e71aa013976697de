use Rattle.atx_sites.specs.LinkCalls.{Sending}
use Rattle.std.proofs.Common.{◌≤◌, length}
use Rattle.atx_sites.proofs.connection.write_some.Given as goal

abbrev pub invariant-pieces : goal.invariant-pieces
invariant-pieces g l =
    (l.done ≤ length l.bytes) × Sending (g.S.Stream.AsRawFd.raw_fd l.stream) l.bytes (g.S.System.calls l.fn.system) l.done (g.S.System.calls l.system)
