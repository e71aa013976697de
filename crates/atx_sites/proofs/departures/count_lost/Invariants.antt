use Rattle.std.proofs.Common.{◌≡◌, take, length}
use Rattle.std.specs.Prelude.{filter}
use Rattle.site_model.specs.Counts.{capped}
use Rattle.atx_sites.specs.Departures.{is_lost}
use Rattle.atx_sites.proofs.departures.count_lost.Given as goal

abbrev pub invariant-places : goal.invariant-places
invariant-places g l = l.count ≡ capped (length (filter is_lost (take l.place l.leaving)))
