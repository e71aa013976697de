use Rattle.std.proofs.Common.{◌≤◌, length, max}
use Rattle.system_calls.specs.Calls.{Number}
use Rattle.atx_sites.specs.Arrivals.{HasCome}
use Rattle.atx_sites.specs.Interim.{Hears}
use Rattle.atx_sites.specs.LinkCalls.{Later}
use Rattle.atx_sites.proofs.Hearings.{StaysSo}
use Rattle.atx_sites.proofs.arriving.read_aside.Given as goal

abbrev pub invariant-reads : goal.invariant-reads
invariant-reads g l =
    ((listener : Number) → HasCome g.S.Stream.AsRawFd.raw_fd listener (g.S.System.calls l.fn.system) l.fn.arriving → HasCome g.S.Stream.AsRawFd.raw_fd listener (g.S.System.calls l.system) l.arriving)
    × Later (g.S.System.calls l.fn.system) (g.S.System.calls l.system)
    × (length l.arriving.bytes.items ≤ max (length l.fn.arriving.bytes.items) l.most)
    × Hears (g.S.Stream.AsRawFd.raw_fd l.fn.arriving.stream) (g.S.System.calls l.fn.system) (g.S.System.calls l.system)
    × StaysSo l.fn.arriving l.arriving
