use Rattle.std.proofs.Common.{◌≡◌, List}
use Rattle.std.specs.Prelude.{All}
use Rattle.system_calls.specs.Calls.{Calls}
use Rattle.atx_sites.specs.Departures.{IsTimed, Within}
use Rattle.atx_sites.specs.Waits.{Changes}
use Rattle.atx_sites.specs.declared.arriving.Arriving.{Arriving}
use Rattle.atx_sites.specs.Arrivals.{Bounded, HaveCome}
use Rattle.atx_sites.specs.LinkCalls.{Later}
use Rattle.atx_sites.proofs.showing.show_until.Given as goal

abbrev pub invariant-waits : goal.invariant-waits
invariant-waits g l =
    (HaveCome g.S.Stream.AsRawFd.raw_fd (g.S.Listener.AsRawFd.raw_fd l.listener) (g.S.System.calls l.fn.system) l.fn.waiting.arriving.items
    → HaveCome g.S.Stream.AsRawFd.raw_fd (g.S.Listener.AsRawFd.raw_fd l.listener) (g.S.System.calls l.system) l.waiting.arriving.items)
    × Later (g.S.System.calls l.fn.system) (g.S.System.calls l.system)
    × (Bounded l.fn.waiting.arriving.items → Bounded l.waiting.arriving.items)
    × (Within l.fn.departures.leaving.items → Within l.departures.leaving.items)
    × ((first : List (Arriving g.row.S-Stream.Denot)) (start : Calls) → Changes first start l.fn.waiting.arriving.items (g.S.System.calls l.fn.system) → Changes first start l.waiting.arriving.items (g.S.System.calls l.system))
    × (All (IsTimed (g.S.System.calls l.fn.system)) l.fn.departures.leaving.items → All (IsTimed (g.S.System.calls l.system)) l.departures.leaving.items)
    × (l.departures.names ≡ l.fn.departures.names)
