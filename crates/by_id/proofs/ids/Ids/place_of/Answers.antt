use Rattle.std.proofs.Common.{◌∙◌, ap, sym}
use Rattle.std.specs.List.{position}
use Rattle.at_model.specs.Book.{is_id}
use Rattle.by_id.specs.Places.{id_of_pair}
use Rattle.by_id.proofs.Filed.{is_id_either, position_map}
use Rattle.by_id.proofs.ids.Ids.place_of.Goals as goal

pub returns : goal.returns
returns c =
    let keys = c.self.inside.numbers.keys in
    c.get_index_of.ensures.index
    ∙ (λ i. position (λ k. is_id (record { incarnation = c.incarnation.ensures.value i; counter = c.counter.ensures.value i }) (id_of_pair k)) keys)
    ∙ (λ i. position (λ k. is_id_either c.args.id (id_of_pair k) i) keys) ∙ sym (position_map id_of_pair (λ other. is_id other c.args.id) keys) ∙ ap (position (λ other. is_id other c.args.id)) c.self.view_is
