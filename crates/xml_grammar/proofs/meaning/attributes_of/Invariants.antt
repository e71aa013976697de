use Rattle.std.proofs.Common.{◌≡◌, ◌++◌, Some, map}
use Rattle.std.specs.Vec.Iter.{into_iter_items}
use Rattle.xml_grammar.specs.Namespaces.{attributes_of}
use Rattle.xml_grammar.specs.Code.Open.{bindings_of, spelled_of}
use Rattle.xml_grammar.proofs.meaning.attributes_of.Given as goal

abbrev pub invariant-loop-attribute : goal.invariant-loop-attribute
invariant-loop-attribute l = record {
  named : attributes_of (bindings_of l.scope) (map spelled_of l.yielded) ≡ Some l.found.items;
  rest : l.yielded ++ into_iter_items l.attribute-iterator ≡ l.fn.attributes.items;
}
