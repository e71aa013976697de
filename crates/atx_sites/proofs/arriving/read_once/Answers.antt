use Rattle.std.proofs.Common.{◌∙◌}
use Rattle.atx_sites.proofs.Comings.{as_late, came_same, late_by}
use Rattle.atx_sites.proofs.Hearings.{heard}
use Rattle.atx_sites.proofs.arriving.read_once.Goals as goal

pub returns-in-Ok-extend_from_slice-clause-later : goal.returns-in-Ok-extend_from_slice-clause-later
returns-in-Ok-extend_from_slice-clause-later g c = late_by _ _ _ c.read.ensures.calls

pub returns-then-arriving-clause-later : goal.returns-then-arriving-clause-later
returns-then-arriving-clause-later g c = as_late _

pub returns-in-Ok-eq0-clause-came : goal.returns-in-Ok-eq0-clause-came
returns-in-Ok-eq0-clause-came g c = λ listener h. came_same _ _ _ _ _ _ _ h c.read.ensures.calls c.reserve.ensures.items

pub returns-in-Ok-eq0-clause-later : goal.returns-in-Ok-eq0-clause-later
returns-in-Ok-eq0-clause-later g c = late_by _ _ _ c.read.ensures.calls

pub returns-in-Err-extend_from_slice-clause-came : goal.returns-in-Err-extend_from_slice-clause-came
returns-in-Err-extend_from_slice-clause-came g c = λ listener h. came_same _ _ _ _ _ _ _ h c.read.ensures.calls (c.in-Err-extend_from_slice.ensures.items ∙ c.reserve.ensures.items)

pub returns-in-Err-extend_from_slice-clause-later : goal.returns-in-Err-extend_from_slice-clause-later
returns-in-Err-extend_from_slice-clause-later g c = late_by _ _ _ c.read.ensures.calls

pub returns-then-not-passes-clause-came : goal.returns-then-not-passes-clause-came
returns-then-not-passes-clause-came g c = λ listener h. came_same _ _ _ _ _ _ _ h c.read.ensures.calls c.reserve.ensures.items

pub returns-then-not-passes-clause-later : goal.returns-then-not-passes-clause-later
returns-then-not-passes-clause-later g c = late_by _ _ _ c.read.ensures.calls

pub returns-else-not-passes-clause-came : goal.returns-else-not-passes-clause-came
returns-else-not-passes-clause-came g c = λ listener h. came_same _ _ _ _ _ _ _ h c.read.ensures.calls c.reserve.ensures.items

pub returns-else-not-passes-clause-later : goal.returns-else-not-passes-clause-later
returns-else-not-passes-clause-later g c = late_by _ _ _ c.read.ensures.calls

pub returns-in-Ok-extend_from_slice-clause-hears : goal.returns-in-Ok-extend_from_slice-clause-hears
returns-in-Ok-extend_from_slice-clause-hears g c = λ first h. heard _ _ _ _ _ h c.read.ensures.calls

pub returns-in-Ok-eq0-clause-hears : goal.returns-in-Ok-eq0-clause-hears
returns-in-Ok-eq0-clause-hears g c = λ first h. heard _ _ _ _ _ h c.read.ensures.calls

pub returns-in-Err-extend_from_slice-clause-hears : goal.returns-in-Err-extend_from_slice-clause-hears
returns-in-Err-extend_from_slice-clause-hears g c = λ first h. heard _ _ _ _ _ h c.read.ensures.calls

pub returns-then-not-passes-clause-hears : goal.returns-then-not-passes-clause-hears
returns-then-not-passes-clause-hears g c = λ first h. heard _ _ _ _ _ h c.read.ensures.calls

pub returns-else-not-passes-clause-hears : goal.returns-else-not-passes-clause-hears
returns-else-not-passes-clause-hears g c = λ first h. heard _ _ _ _ _ h c.read.ensures.calls
