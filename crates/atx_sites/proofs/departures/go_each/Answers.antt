use Rattle.std.proofs.Common.{refl, rules}
use Rattle.atx_sites.proofs.DepartureLists.{none_advance, one_advances}
use Rattle.atx_sites.proofs.departures.go_each.Goals as goal

pub places-preserved : goal.places-preserved
places-preserved g c = one_advances _ _ _ _ _ _ _ _ _ (search rules) c.places.invariant.2 c.places.invariant.1 c.places.invariant.0 c.go_at.ensures

pub places-init : goal.places-init
places-init g c = (none_advance _ _ _, refl, refl)
