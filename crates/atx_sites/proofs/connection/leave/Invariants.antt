use Rattle.std.proofs.Common.{◌≡◌}
use Rattle.std.specs.Prelude.{All}
use Rattle.atx_sites.specs.Departures.{IsTimed, Within}
use Rattle.atx_sites.specs.LinkCalls.{Later}
use Rattle.atx_sites.proofs.connection.leave.Given as goal

abbrev pub invariant-waits : goal.invariant-waits
invariant-waits g l =
    Later (g.S.System.calls l.fn.system) (g.S.System.calls l.system)
    × (Within l.fn.departures.leaving.items → Within l.departures.leaving.items)
    × (All (IsTimed (g.S.System.calls l.fn.system)) l.fn.departures.leaving.items → All (IsTimed (g.S.System.calls l.system)) l.departures.leaving.items)
    × (l.departures.names ≡ l.fn.departures.names)
