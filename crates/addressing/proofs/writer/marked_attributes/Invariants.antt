use Rattle.std.proofs.Common.{◌≡◌, ◌++◌, map}
use Rattle.addressing.specs.OutgoingHeaders.{with_mark}
use Rattle.addressing.proofs.writer.marked_attributes.Given as goal

abbrev pub invariant-loop-attribute : goal.invariant-loop-attribute
invariant-loop-attribute l = l.marked.items ≡ l.initial.marked.items ++ map with_mark l.yielded
