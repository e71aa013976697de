use Rattle.std.proofs.Common.{◌≡◌, ◌+◌, drop}
use Rattle.by_id.specs.Places.{place_by}
use Rattle.by_id.proofs.list.walk_to.Given as goal

abbrev pub invariant-loop-place : goal.invariant-loop-place
invariant-loop-place g l =
    (l.count ≡ l.place-index)
    × (l.count + place_by g.T.Identified.id_of l.id (drop l.place-index l.places) ≡ place_by g.T.Identified.id_of l.id l.places)
