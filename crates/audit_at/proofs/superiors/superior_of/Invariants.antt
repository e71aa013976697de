use Rattle.std.proofs.Common.{◌≡◌, drop}
use Rattle.audit_at.specs.Superiors.{superior_of}
use Rattle.audit_at.proofs.superiors.superior_of.Given as goal

abbrev pub invariant-loop-sub : goal.invariant-loop-sub
invariant-loop-sub l = superior_of (drop l.sub-index l.subs) l.item ≡ superior_of l.subs l.item
