use Rattle.std.proofs.Common.{◌≡◌, ◌+◌, length, string_bytes}
use Rattle.xml_grammar.specs.Code.Reading.{with_front, value_at}
use Rattle.xml_grammar.proofs.markup.read_value.Given as goal

abbrev pub invariant-loop-left : goal.invariant-loop-left
invariant-loop-left l = with_front (string_bytes l.out) (value_at l.left l.quote l.rest) ≡ value_at (length l.cs + 1) l.quote l.cs

abbrev pub decreases-loop-left : goal.decreases-loop-left
decreases-loop-left l = l.left
