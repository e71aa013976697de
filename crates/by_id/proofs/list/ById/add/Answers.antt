use Rattle.std.proofs.Common.{rules, subst, ◌++◌, ◌∷◌, []}
use Rattle.by_id.specs.Places.{IsFiled}
use Rattle.by_id.specs.declared.place.Place.TheVariants as place
use Rattle.by_id.proofs.Kept.{kept_pushed}
use Rattle.by_id.proofs.list.ById.add.Goals as goal

pub invariant_of-self : goal.invariant_of-self
invariant_of-self g c =
    let key = g.T.Identified.id_of in
    let ps = c.self.inside.places.items in
    let more = c.file_next-self-inside.new.ids in (
      rw c.in-Ok.ensures.items (kept_pushed key c.self.inside.filed c.self.inside.live c.self.inside.ids ps c.file_next-self-inside.result more c.args.item
          (λ e. subst (λ qs. IsFiled key more (qs ++ place.Live c.args.item ∷ [])) c.as_slice.ensures.value (c.file_next-self-inside.ensures e)) c.self.invariant.0),
      search rules,
    )
