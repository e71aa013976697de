use Rattle.std.proofs.Common.{◌≡◌, ◌++◌, Some, map}
use Rattle.std.specs.Vec.Iter.{into_iter_items}
use Rattle.xml_grammar.specs.Namespaces.{sort}
use Rattle.xml_grammar.specs.Code.Views.{pair_of}
use Rattle.xml_grammar.specs.Code.Open.{sorted_of}
use Rattle.xml_grammar.proofs.meaning.sort.Given as goal

abbrev pub invariant-loop-pair : goal.invariant-loop-pair
invariant-loop-pair l = record {
  sorted : sort (map pair_of l.yielded) ≡ Some (sorted_of l.sorted);
  rest : l.yielded ++ into_iter_items l.pair-iterator ≡ l.fn.pairs.items;
}
