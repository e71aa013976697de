use Rattle.std.proofs.Common.{◌≡◌, ◌≤◌, ◌-◌, ◌+◌, drop, length, not, nat_eq}
use Rattle.std.specs.List.{prefix_len}
use Rattle.xml_grammar.proofs.lexer.prefix_len.Given as goal

abbrev pub invariant-loop-n : goal.invariant-loop-n
invariant-loop-n l = (l.n ≤ length l.cs) × (l.n + prefix_len (λ c. not (nat_eq c 58)) (drop l.n l.cs) ≡ prefix_len (λ c. not (nat_eq c 58)) l.cs)

abbrev pub decreases-loop-n : goal.decreases-loop-n
decreases-loop-n l = length l.cs - l.n
