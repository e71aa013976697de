use Rattle.std.proofs.Common.{◌≡◌, ◌-◌, ◌^◌, min, take}
use Rattle.std.specs.List.{sum_by}
use Rattle.atx_sites.specs.Departures.{weight}
use Rattle.atx_sites.proofs.departures.bytes_of.Given as goal

abbrev pub invariant-places : goal.invariant-places
invariant-places g l = l.sum ≡ min (sum_by weight (take l.place l.leaving)) (2 ^ 64 - 1)
