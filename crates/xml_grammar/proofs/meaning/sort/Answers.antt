use Rattle.std.proofs.Common.{sym, ap, ◌∙◌, ◌∷◌, [], map, Some, option_map}
use Rattle.std.proofs.lemmas.List.{map-append}
use Rattle.std.specs.Vec.Iter.{into_iter_items}
use Rattle.xml_grammar.specs.Namespaces.{sort}
use Rattle.xml_grammar.specs.Code.Views.{pair_of, parts_of}
use Rattle.xml_grammar.specs.Code.Open.{sorted_of}
use Rattle.xml_grammar.proofs.Turns.{turn_all, turn_next}
use Rattle.xml_grammar.proofs.MeaningLaws.{sort_more, sort_stops}
use Rattle.xml_grammar.proofs.meaning.sort.Goals as goal

pub returns-in_default : goal.returns-in_default
returns-in_default c =
    let rest = into_iter_items c.next.new.self in
    let e = turn_all c.loop-pair.pair-iterator c.next.new.self c.next.result c.in-Some.pair c.loop-pair.yielded c.args.pairs.items c.in-Some.is c.next.ensures.steps c.loop-pair.invariant.rest in
    sym (ap (λ v. sort (map pair_of v)) (sym e) ∙ (ap sort (map-append pair_of c.loop-pair.yielded (c.in-Some.pair ∷ rest))
    ∙ sort_stops (map pair_of c.loop-pair.yielded) (map pair_of rest) (pair_of c.in-Some.pair) (sorted_of c.loop-pair.sorted) c.loop-pair.invariant.sorted (sym c.split_name.ensures ∙ ap (option_map parts_of) c.in_default.is)))

pub loop-pair-preserved : goal.loop-pair-preserved
loop-pair-preserved c = record {
  sorted =
      ap sort (map-append pair_of c.loop-pair.yielded (c.in-Some.pair ∷ []))
      ∙ (sort_more (map pair_of c.loop-pair.yielded) (pair_of c.in-Some.pair) (parts_of c.in-Some-split_name.name) (sorted_of c.loop-pair.sorted) c.loop-pair.invariant.sorted
      (sym c.split_name.ensures ∙ ap (option_map parts_of) c.in-Some-split_name.is)
      ∙ ap Some (sym c.in_ok-add.ensures));
  rest = turn_next c.loop-pair.pair-iterator c.next.new.self c.next.result c.in-Some.pair c.loop-pair.yielded c.args.pairs.items c.in-Some.is c.next.ensures.steps c.loop-pair.invariant.rest;
}
