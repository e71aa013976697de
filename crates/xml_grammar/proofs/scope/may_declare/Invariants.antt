use Rattle.std.proofs.Common.{◌≡◌, ◌≤◌, drop, length, map, true, ℕ, List, Bor}
use Rattle.xml_grammar.specs.Namespaces.{may_declare, declares}
use Rattle.xml_grammar.specs.Code.Places.{binding_of}
use Rattle.xml_grammar.proofs.KeyLaws.{has_prefix}
use Rattle.xml_grammar.proofs.scope.may_declare.Given as goal

abbrev pub invariant-loop-left : goal.invariant-loop-left
invariant-loop-left l = record {
  within : l.left ≤ length l.bindings;
  allowed : may_declare (map binding_of (drop l.left l.bindings)) ≡ true;
  seen : (q : Bor (List ℕ)) → has_prefix l.behind q ≡ declares q.now (map binding_of (drop l.left l.bindings));
}

abbrev pub decreases-loop-left : goal.decreases-loop-left
decreases-loop-left l = l.left
