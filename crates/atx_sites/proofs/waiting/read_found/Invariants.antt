use Rattle.system_calls.specs.Calls.{Calls, Number}
use Rattle.atx_sites.specs.Arrivals.{Bounded, HaveCome}
use Rattle.atx_sites.specs.LinkCalls.{Later}
use Rattle.atx_sites.specs.Waits.{Changes}
use Rattle.atx_sites.specs.declared.arriving.Arriving.{Arriving}
use Rattle.std.proofs.Common.{List}
use Rattle.atx_sites.proofs.waiting.read_found.Given as goal

abbrev pub invariant-found : goal.invariant-found
invariant-found g l =
    ((listener : Number) → HaveCome g.S.Stream.AsRawFd.raw_fd listener (g.S.System.calls l.fn.system) l.fn.waiting.arriving.items → HaveCome g.S.Stream.AsRawFd.raw_fd listener (g.S.System.calls l.system) l.waiting.arriving.items)
    × Later (g.S.System.calls l.fn.system) (g.S.System.calls l.system)
    × (Bounded l.fn.waiting.arriving.items → Bounded l.waiting.arriving.items)
    × ((first : List (Arriving g.row.S-Stream.Denot)) (start : Calls) → Changes first start l.fn.waiting.arriving.items (g.S.System.calls l.fn.system) → Changes first start l.waiting.arriving.items (g.S.System.calls l.system))
