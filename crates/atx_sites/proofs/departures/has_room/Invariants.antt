use Rattle.std.proofs.Common.{List}
use Rattle.atx_sites.specs.Departures.{IsPart}
use Rattle.atx_sites.specs.declared.outgoing.Outgoing.{Outgoing}
use Rattle.atx_sites.proofs.departures.has_room.Given as goal

abbrev pub invariant-rooms : goal.invariant-rooms
invariant-rooms g l = (first : List (Outgoing g.row.C.Denot)) → IsPart first l.fn.leaving.items → IsPart first l.leaving.items
