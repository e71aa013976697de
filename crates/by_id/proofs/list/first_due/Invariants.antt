use Rattle.std.proofs.Common.{◌≡◌, drop}
use Rattle.by_id.specs.Lists.{next_due}
use Rattle.by_id.specs.Places.{left}
use Rattle.by_id.proofs.list.first_due.Given as goal

abbrev pub invariant-loop-place : goal.invariant-loop-place
invariant-loop-place g l =
    next_due g.T.Identified.id_of (g.T.Identified.is_due_at l.moment) l.after (left (drop l.place-index l.places))
    ≡ next_due g.T.Identified.id_of (g.T.Identified.is_due_at l.moment) l.after (left l.places)
