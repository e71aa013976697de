use Rattle.std.proofs.Common.{◌≡◌, take, drop, length}
use Rattle.atx_sites.specs.Departures.{Advances}
use Rattle.atx_sites.proofs.departures.go_each.Given as goal

abbrev pub invariant-places : goal.invariant-places
invariant-places g l =
    Advances g.S.Stream.AsRawFd.raw_fd l.now (g.S.System.calls l.fn.system) (take l.place l.fn.leaving.items) (take l.place l.leaving.items) (g.S.System.calls l.system)
    × (drop l.place l.leaving.items ≡ drop l.place l.fn.leaving.items) × (length l.leaving.items ≡ length l.fn.leaving.items)
