use Rattle.std.proofs.Common.{◌∙◌}
use Rattle.atx_sites.proofs.Comings.{later_still}
use Rattle.atx_sites.proofs.DepartureTimes.{all_timed_later}
use Rattle.atx_sites.proofs.connection.leave.Goals as goal

pub waits-preserved : goal.waits-preserved
waits-preserved g c = (
  later_still _ _ _ (later_still _ _ _ c.waits.invariant.0 c.advance.ensures.later) c.wait_leaving.ensures,
  (λ h. c.advance.ensures.within (c.waits.invariant.1 h)),
  (λ h. all_timed_later _ _ _ (c.advance.ensures.timed (c.waits.invariant.2 h)) c.wait_leaving.ensures),
  c.advance.ensures.names ∙ c.waits.invariant.3,
)

pub returns-in_default-clause-later : goal.returns-in_default-clause-later
returns-in_default-clause-later g c = later_still _ _ _ c.waits.invariant.0 c.advance.ensures.later

pub returns-in_default-clause-within : goal.returns-in_default-clause-within
returns-in_default-clause-within g c = λ h. c.advance.ensures.within (c.waits.invariant.1 h)

pub returns-in_default-clause-timed : goal.returns-in_default-clause-timed
returns-in_default-clause-timed g c = λ h. c.advance.ensures.timed (c.waits.invariant.2 h)

pub returns-in_default-clause-names : goal.returns-in_default-clause-names
returns-in_default-clause-names g c = c.advance.ensures.names ∙ c.waits.invariant.3

pub returns-then-is_empty-clause-later : goal.returns-then-is_empty-clause-later
returns-then-is_empty-clause-later g c = later_still _ _ _ c.waits.invariant.0 c.advance.ensures.later

pub returns-then-is_empty-clause-within : goal.returns-then-is_empty-clause-within
returns-then-is_empty-clause-within g c = λ h. c.advance.ensures.within (c.waits.invariant.1 h)

pub returns-then-is_empty-clause-timed : goal.returns-then-is_empty-clause-timed
returns-then-is_empty-clause-timed g c = λ h. c.advance.ensures.timed (c.waits.invariant.2 h)

pub returns-then-is_empty-clause-names : goal.returns-then-is_empty-clause-names
returns-then-is_empty-clause-names g c = c.advance.ensures.names ∙ c.waits.invariant.3

pub returns-clause-within : goal.returns-clause-within
returns-clause-within g c = c.waits.invariant.1

pub returns-clause-timed : goal.returns-clause-timed
returns-clause-timed g c = c.waits.invariant.2

pub returns-clause-names : goal.returns-clause-names
returns-clause-names g c = c.waits.invariant.3
