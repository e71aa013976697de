use Rattle.std.proofs.Common.{◌≡◌, ◌+◌, drop}
use Rattle.world_laws.specs.LeftRecords.{place_in}
use Rattle.world_laws.proofs.left_records.place_in.Given as goal

abbrev pub invariant-loop-other : goal.invariant-loop-other
invariant-loop-other l =
    (l.place ≡ l.other-index) × (l.place + place_in l.entry (drop l.other-index l.left) ≡ place_in l.entry l.left)
