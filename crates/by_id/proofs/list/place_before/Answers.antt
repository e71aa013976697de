use Rattle.std.proofs.Common.{sym, ◌∙◌}
use Rattle.by_id.proofs.Filed.{at_place, before_place}
use Rattle.by_id.proofs.list.place_before.Goals as goal

pub returns-clause-before : goal.returns-clause-before
returns-clause-before g c =
    let key = g.T.Identified.id_of in
    before_place key c.args.id c.args.places.now _ c.requires.0 (sym (at_place key c.args.id c.args.ids.now c.args.places.now c.requires) ∙ sym c.place_of.ensures ∙ c.in-Some.is)
