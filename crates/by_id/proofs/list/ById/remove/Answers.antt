use Rattle.std.proofs.Common.{rules, ap, length, slice_set, sym, ◌∙◌, ◌≡◌}
use Rattle.by_id.specs.Places.{WasFiled, place_by}
use Rattle.by_id.specs.declared.place.Place.TheVariants as places
use Rattle.by_id.proofs.Kept.{fewer, was_dropped}
use Rattle.by_id.proofs.list.ById.remove.Goals as goal

pub pack-requires : goal.pack-requires
pack-requires g c =
    let key = g.T.Identified.id_of in
    let ps = c.self.inside.places.items in
    let here : c.place_in-place.result ≡ place_by key c.args.id ps = c.place_in-place.ensures ∙ ap (place_by key c.args.id) c.as_slice.ensures.value in
    rw here (fewer key c.self.inside.filed c.self.inside.live c.self.inside.ids ps c.args.id (search rules) c.self.invariant.0.0)

pub refile-self-inside-requires : goal.refile-self-inside-requires
refile-self-inside-requires g c e =
    let key = g.T.Identified.id_of in
    let ps = c.self.inside.places.items in
    let here : c.place_in-place.result ≡ place_by key c.args.id ps = c.place_in-place.ensures ∙ ap (place_by key c.args.id) c.as_slice.ensures.value in
    let was : WasFiled key c.self.inside.ids (length (slice_set ps c.place_in-place.result (places.Gone c.args.id))) c.pack.new.places.items =
    rw here (was_dropped key c.self.inside.filed c.self.inside.live c.self.inside.ids ps c.args.id (search rules) c.pack.new.places.items (rw (sym here) c.pack.ensures.part) c.self.invariant.0 e) in
    let many : c.len-before.result ≡ length (slice_set ps c.place_in-place.result (places.Gone c.args.id)) = search rules in
    rw (c.as_slice-then-place-len.ensures.value, many) was
