use Rattle.std.proofs.Common.{◌≡◌, ◌≤◌, drop, length, true, ℕ, List, Option, Bor}
use Rattle.xml_grammar.specs.Namespaces.{are_apart, names}
use Rattle.xml_grammar.specs.Code.Keys.{name_of}
use Rattle.xml_grammar.proofs.KeyLaws.{has_name}
use Rattle.xml_grammar.proofs.meaning.are_apart.Given as goal

abbrev pub invariant-loop-left : goal.invariant-loop-left
invariant-loop-left l = record {
  within : l.left ≤ length l.attributes;
  apart : are_apart (drop l.left l.attributes) ≡ true;
  seen : (q : Bor (List ℕ) × Option (Bor (List ℕ))) → has_name l.behind q ≡ names (name_of q) (drop l.left l.attributes);
}

abbrev pub decreases-loop-left : goal.decreases-loop-left
decreases-loop-left l = l.left
