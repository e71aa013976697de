use Rattle.std.proofs.Common.{rules, ap, ◌≡◌, ◌∙◌}
use Rattle.by_id.specs.Places.{place_by}
use Rattle.by_id.proofs.Kept.{kept_moved}
use Rattle.by_id.proofs.list.ById.make.Goals as goal

pub invariant_of-self : goal.invariant_of-self
invariant_of-self g c =
    let key = g.T.Identified.id_of in
    let ps = c.self.inside.places.items in
    let here : c.place_in-place.result ≡ place_by key c.args.id ps = c.place_in-place.ensures ∙ ap (place_by key c.args.id) c.as_slice.ensures.value in (
      rw here
          (kept_moved key c.self.inside.filed c.self.inside.live c.self.inside.ids ps c.if-self.self c.args.id g.T.Identified.moved c.args.by c.make.new.self c.index_mut-moved.result.now (search rules) (λ e. search rules) c.self.invariant.0),
      search rules,
    )
