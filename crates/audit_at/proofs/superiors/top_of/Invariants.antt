use Rattle.std.proofs.Common.{◌≡◌}
use Rattle.audit_at.specs.Superiors.{climb, top_of}
use Rattle.audit_at.proofs.superiors.top_of.Given as goal

abbrev pub invariant-loop-left : goal.invariant-loop-left
invariant-loop-left l = climb l.subs l.left l.at ≡ top_of l.subs l.item

abbrev pub decreases-loop-left : goal.decreases-loop-left
decreases-loop-left l = l.left
