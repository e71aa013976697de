use Rattle.std.proofs.Common.{◌≡◌, ◌≤◌, ◌-◌, ◌+◌, drop, length, nat_eq, not}
use Rattle.std.specs.List.{prefix_len}
use Rattle.schedules.proofs.words.line_len.Given as goal

abbrev pub invariant-loop-n : goal.invariant-loop-n
invariant-loop-n l =
    (l.n ≤ length l.text) × (l.n + prefix_len (λ b. not (nat_eq b 10)) (drop l.n l.text) ≡ prefix_len (λ b. not (nat_eq b 10)) l.text)

abbrev pub decreases-loop-n : goal.decreases-loop-n
decreases-loop-n l = length l.text - l.n
