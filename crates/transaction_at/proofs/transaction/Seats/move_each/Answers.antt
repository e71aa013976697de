use Rattle.std.proofs.Common.{◌∙◌, ap}
use Rattle.transaction_at.specs.Counts.{counted}
use Rattle.transaction_at.specs.Groups.{belongs}
use Rattle.transaction_at.proofs.Rooms.{kept_moved, kept_places}
use Rattle.transaction_at.proofs.transaction.Seats.move_each.Goals as goal

pub invariant_of-self : goal.invariant_of-self
invariant_of-self c =
    let kept = kept_moved (belongs c.args.group) c.args.state c.self.inside.items.items _ _ _ _ _ c.move_each.ensures.items (c.counted-self-inside.ensures ∙ ap counted (c.as_slice.ensures.value ∙ c.move_each.ensures.items)) c.self.invariant.1 c.self.invariant.2 c.move_each.ensures.room in
    let places = kept_places (belongs c.args.group) c.args.state c.self.inside.index.items c.self.inside.items.items _ _ c.move_each.ensures.items c.self.invariant.3 c.self.invariant.4 c.self.invariant.5 in
    (kept.0, kept.1, kept.2, places.0, places.1, places.2)
