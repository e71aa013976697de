use Rattle.std.proofs.Common.{◌∙◌, ap, sym}
use Rattle.at_model.specs.Seats.{moved}
use Rattle.transaction_at.specs.Counts.{counted}
use Rattle.transaction_at.specs.Numbers.{is_numbered}
use Rattle.transaction_at.proofs.Rooms.{kept_moved, kept_places}
use Rattle.transaction_at.proofs.transaction.Seats.set_state.Goals as goal

pub invariant_of-self : goal.invariant_of-self
invariant_of-self c =
    let kept = kept_moved (is_numbered c.args.number) c.args.state c.self.inside.items.items _ _ _ _ _ c.set_state.ensures.items (c.counts_after-self-inside.ensures ∙ ap (λ ss. counted (moved (is_numbered c.args.number) c.args.state ss)) (sym c.self.view_is)) c.self.invariant.1 c.self.invariant.2 c.set_state.ensures.room in
    let places = kept_places (is_numbered c.args.number) c.args.state c.self.inside.index.items c.self.inside.items.items _ _ c.set_state.ensures.items c.self.invariant.3 c.self.invariant.4 c.self.invariant.5 in
    (kept.0, kept.1, kept.2, places.0, places.1, places.2)
