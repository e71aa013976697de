use Rattle.atx_sites.specs.Arrivals.{Bounded, HaveCome}
use Rattle.atx_sites.specs.LinkCalls.{Later, ReadsClock}
use Rattle.atx_sites.specs.Waits.{Changes}
use Rattle.atx_sites.specs.declared.arriving.Arriving.{Arriving}
use Rattle.std.proofs.Common.{List}
use Rattle.system_calls.specs.Calls.{Calls}
use Rattle.atx_sites.proofs.waiting.accept_all.Given as goal

abbrev pub invariant-accepted : goal.invariant-accepted
invariant-accepted g l =
    (HaveCome g.S.Stream.AsRawFd.raw_fd (g.S.Listener.AsRawFd.raw_fd l.listener) (g.S.System.calls l.fn.system) l.fn.waiting.arriving.items
    → HaveCome g.S.Stream.AsRawFd.raw_fd (g.S.Listener.AsRawFd.raw_fd l.listener) (g.S.System.calls l.system) l.waiting.arriving.items)
    × Later (g.S.System.calls l.fn.system) (g.S.System.calls l.system)
    × (Bounded l.fn.waiting.arriving.items → Bounded l.waiting.arriving.items)
    × ((first : List (Arriving g.row.S-Stream.Denot)) (start : Calls) → ReadsClock l.now start (g.S.System.calls l.fn.system) → Changes first start l.fn.waiting.arriving.items (g.S.System.calls l.fn.system)
    → Changes first start l.waiting.arriving.items (g.S.System.calls l.system))
