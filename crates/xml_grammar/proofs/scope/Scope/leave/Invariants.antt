use Rattle.std.proofs.Common.{◌≡◌, length, take}
use Rattle.xml_grammar.specs.Code.Open.{bindings_of}
use Rattle.xml_grammar.proofs.scope.Scope.leave.Given as goal

abbrev pub invariant-loop-self : goal.invariant-loop-self
invariant-loop-self l = take l.count (bindings_of l.self) ≡ take l.count (bindings_of l.fn.self)

abbrev pub decreases-loop-self : goal.decreases-loop-self
decreases-loop-self l = length (bindings_of l.self)
