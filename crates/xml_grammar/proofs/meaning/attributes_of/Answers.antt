use Rattle.std.proofs.Common.{sym, ap, ◌∙◌, ◌∷◌, [], map, Some}
use Rattle.std.proofs.lemmas.List.{map-append}
use Rattle.std.specs.Vec.Iter.{into_iter_items}
use Rattle.xml_grammar.specs.Namespaces.{attributes_of}
use Rattle.xml_grammar.specs.Code.Open.{bindings_of, spelled_of}
use Rattle.xml_grammar.proofs.Turns.{turn_all, turn_next}
use Rattle.xml_grammar.proofs.MeaningLaws.{attributes_more, attributes_stop}
use Rattle.xml_grammar.proofs.meaning.attributes_of.Goals as goal

pub returns-in_default : goal.returns-in_default
returns-in_default c =
    let rest = into_iter_items c.next.new.self in
    let bs = bindings_of c.args.scope.now in
    let e = turn_all c.loop-attribute.attribute-iterator c.next.new.self c.next.result c.in-Some.attribute c.loop-attribute.yielded c.args.attributes.items c.in-Some.is c.next.ensures.steps c.loop-attribute.invariant.rest in
    sym (ap (λ v. attributes_of bs (map spelled_of v)) (sym e) ∙ (ap (attributes_of bs) (map-append spelled_of c.loop-attribute.yielded (c.in-Some.attribute ∷ rest))
    ∙ attributes_stop bs (map spelled_of c.loop-attribute.yielded) (map spelled_of rest) (spelled_of c.in-Some.attribute) c.loop-attribute.found.items c.loop-attribute.invariant.named
    (sym c.in_ok-name.ensures ∙ c.in_default.is)))

pub loop-attribute-preserved : goal.loop-attribute-preserved
loop-attribute-preserved c = record {
  named =
      ap (attributes_of (bindings_of c.args.scope.now)) (map-append spelled_of c.loop-attribute.yielded (c.in-Some.attribute ∷ []))
      ∙ (attributes_more (bindings_of c.args.scope.now) (map spelled_of c.loop-attribute.yielded) (spelled_of c.in-Some.attribute) c.in-Some-2.name c.loop-attribute.found.items c.loop-attribute.invariant.named
      (sym c.in_ok-name.ensures ∙ c.in-Some-2.is)
      ∙ ap Some (sym c.in_ok-push.ensures.items));
  rest =
      turn_next c.loop-attribute.attribute-iterator c.next.new.self c.next.result c.in-Some.attribute c.loop-attribute.yielded c.args.attributes.items c.in-Some.is c.next.ensures.steps
      c.loop-attribute.invariant.rest;
}
