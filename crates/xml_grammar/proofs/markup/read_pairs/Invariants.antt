use Rattle.std.proofs.Common.{◌≡◌, ◌+◌, length, map}
use Rattle.xml_grammar.specs.Code.Reading.{pairs_at}
use Rattle.xml_grammar.specs.Code.Views.{with_pairs, pair_of}
use Rattle.xml_grammar.proofs.markup.read_pairs.Given as goal

abbrev pub invariant-loop-left : goal.invariant-loop-left
invariant-loop-left l = with_pairs (map pair_of l.pairs.items) (pairs_at l.left l.rest) ≡ pairs_at (length l.cs + 1) l.cs

abbrev pub decreases-loop-left : goal.decreases-loop-left
decreases-loop-left l = l.left
