use Rattle.std.proofs.Common.{rules, ap, ◌∙◌}
use Rattle.by_id.specs.Places.{place_by}
use Rattle.by_id.proofs.Kept.{kept_replaced}
use Rattle.by_id.proofs.list.ById.replace.Goals as goal

pub invariant_of-self : goal.invariant_of-self
invariant_of-self g c =
    let key = g.T.Identified.id_of in (
      rw (c.place_in-place.ensures ∙ ap (place_by key c.args.id) c.as_slice.ensures.value)
          (kept_replaced key c.self.inside.filed c.self.inside.live c.self.inside.ids c.self.inside.places.items c.if-self.self c.args.id c.args.item (λ e. search rules) c.self.invariant.0),
      search rules,
    )

pub invariant_of-self-after-self-2 : goal.invariant_of-self-after-self-2
invariant_of-self-after-self-2 g c =
    let key = g.T.Identified.id_of in (
      rw (c.place_in-place.ensures ∙ ap (place_by key c.args.id) c.as_slice.ensures.value)
          (kept_replaced key c.self.inside.filed c.self.inside.live c.self.inside.ids c.self.inside.places.items c.if-self.self c.args.id c.args.item (λ e. search rules) c.self.invariant.0),
      search rules,
    )
