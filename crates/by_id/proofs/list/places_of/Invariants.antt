use Rattle.std.proofs.Common.{◌≡◌, ◌++◌, ◌≤◌, map}
use Rattle.std.specs.Vec.{vec_capacity}
use Rattle.std.specs.Vec.Iter.{into_iter_items}
use Rattle.by_id.specs.declared.place.Place.TheVariants as place
use Rattle.by_id.proofs.list.places_of.Given as goal

abbrev pub invariant-loop-item : goal.invariant-loop-item
invariant-loop-item g l =
    (l.places.items ++ map place.Live (into_iter_items l.item-iterator) ≡ map place.Live l.fn.items.items)
    × (2048 ≤ vec_capacity l.places)
