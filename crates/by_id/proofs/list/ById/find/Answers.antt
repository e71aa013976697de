use Rattle.std.proofs.Common.{rules, ap, ◌≡◌, ◌∙◌}
use Rattle.by_id.specs.Places.{place_by}
use Rattle.by_id.proofs.Places.{item_at, item_none}
use Rattle.by_id.proofs.list.ById.find.Goals as goal

pub returns-in_err-get : goal.returns-in_err-get
returns-in_err-get g c =
    let key = g.T.Identified.id_of in
    let ps = c.self.inside.places.items in
    let here : c.place_in.result ≡ place_by key c.args.id ps = c.place_in.ensures ∙ ap (place_by key c.args.id) c.as_slice-places.ensures.value in
    let none = item_none key c.args.id ps (search rules) in
    search rules

pub returns : goal.returns
returns g c =
    let key = g.T.Identified.id_of in
    let ps = c.self.inside.places.items in
    let here : c.place_in.result ≡ place_by key c.args.id ps = c.place_in.ensures ∙ ap (place_by key c.args.id) c.as_slice-places.ensures.value in
    let found = item_at key c.args.id c.in_ok-get.field-0.now ps (search rules) (search rules) in
    search rules
