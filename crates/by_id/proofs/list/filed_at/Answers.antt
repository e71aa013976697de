use Rattle.std.proofs.Common.{rules, sym, true, false, ◌≡◌, ◌∙◌}
use Rattle.std.proofs.lemmas.List.Elements.{at_read}
use Rattle.by_id.specs.Places.{holds}
use Rattle.by_id.proofs.Filed.{at_place, found_at, found_gone, found_none, has, position_inside}
use Rattle.by_id.proofs.list.filed_at.Goals as goal

pub returns-in_default : goal.returns-in_default
returns-in_default g c =
    let key = g.T.Identified.id_of in
    found_none key c.args.id c.args.places.now (sym (at_place key c.args.id c.args.ids.now c.args.places.now c.requires) ∙ sym c.place_of.ensures ∙ search rules)

pub returns-then-holds : goal.returns-then-holds
returns-then-holds g c =
    let key = g.T.Identified.id_of in
    let ps = c.args.places.now in
    let at = sym (at_place key c.args.id c.args.ids.now ps c.requires) ∙ sym c.place_of.ensures ∙ c.in-Some.is in
    found_at key c.args.id ps _ at (at_read ps (λ p. holds key c.args.id p ≡ true) _ c.index-places-place.result (position_inside (has key c.args.id) ps _ at) (search rules) (search rules))

pub returns-else-holds : goal.returns-else-holds
returns-else-holds g c =
    let key = g.T.Identified.id_of in
    let ps = c.args.places.now in
    let at = sym (at_place key c.args.id c.args.ids.now ps c.requires) ∙ sym c.place_of.ensures ∙ c.in-Some.is in
    found_gone key c.args.id ps _ c.requires.0 at (at_read ps (λ p. holds key c.args.id p ≡ false) _ c.index-places-place.result (position_inside (has key c.args.id) ps _ at) (search rules) (search rules))
