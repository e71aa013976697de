use Rattle.std.proofs.Common.{Bool, Option, ◌≤◌, take}
use Rattle.std.specs.declared.net.SocketAddr.{SocketAddr}
use Rattle.atx_sites.specs.Departures.{Tests, number_to}
use Rattle.atx_sites.proofs.departures.count_to.Given as goal

abbrev pub invariant-places : goal.invariant-places
invariant-places g l = (l.count ≤ l.place) × ((test : Option SocketAddr → Bool) → Tests l.host test → number_to test (take l.place l.leaving) ≤ l.count)
