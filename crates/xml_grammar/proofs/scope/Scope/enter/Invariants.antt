use Rattle.std.proofs.Common.{◌≡◌, ◌++◌, map}
use Rattle.xml_grammar.specs.Code.Places.{binding_of}
use Rattle.xml_grammar.specs.Code.Open.{bindings_of}
use Rattle.xml_grammar.proofs.scope.Scope.enter.Given as goal

abbrev pub invariant-loop-binding : goal.invariant-loop-binding
invariant-loop-binding l = bindings_of l.self ≡ bindings_of l.fn.self ++ map binding_of l.yielded
