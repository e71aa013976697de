use Rattle.std.proofs.Common.{◌≡◌, ◌++◌, drop, map}
use Rattle.by_id.specs.Places.{id_at}
use Rattle.by_id.proofs.ids.Ids.file_all.Given as goal

abbrev pub invariant-loop-place : goal.invariant-loop-place
invariant-loop-place g l = l.self ++ map (id_at g.T.Identified.id_of) (drop l.place-index l.places) ≡ map (id_at g.T.Identified.id_of) l.places
