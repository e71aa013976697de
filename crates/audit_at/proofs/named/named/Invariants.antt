use denote.Shadow.{shadow}
use denote.Text.{Utf8}
use Rattle.std.proofs.Common.{◌≡◌, length}
use Rattle.audit_at.specs.Superiors.{named, named_from}
use Rattle.audit_at.proofs.named.named.Given as goal

abbrev pub invariant-loop-rest : goal.invariant-loop-rest
invariant-loop-rest l = shadow (Utf8 l.rest) × (named_from l.address l.base l.rest ≡ named l.address)

abbrev pub decreases-loop-rest : goal.decreases-loop-rest
decreases-loop-rest l = length l.rest
