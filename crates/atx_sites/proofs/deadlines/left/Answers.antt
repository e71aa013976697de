use Rattle.atx_sites.proofs.Comings.{late_by}
use Rattle.atx_sites.proofs.deadlines.left.Goals as goal

pub returns-in_err-now : goal.returns-in_err-now
returns-in_err-now g c = late_by _ _ _ c.monotonic.ensures

pub returns-then-has_passed : goal.returns-then-has_passed
returns-then-has_passed g c = late_by _ _ _ c.monotonic.ensures

pub returns : goal.returns
returns g c = late_by _ _ _ c.monotonic.ensures
