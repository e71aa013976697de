use Rattle.std.proofs.Common.{◌≡◌}
use Rattle.audit_at.specs.Superiors.{comes_back, comes_to}
use Rattle.audit_at.proofs.superiors.comes_back.Given as goal

abbrev pub invariant-loop-left : goal.invariant-loop-left
invariant-loop-left l = comes_to l.subs l.left l.item l.at ≡ comes_back l.subs l.item

abbrev pub decreases-loop-left : goal.decreases-loop-left
decreases-loop-left l = l.left
