use Rattle.std.proofs.Common.{None}
use Rattle.atx_sites.proofs.Comings.{late_by, later_by}
use Rattle.atx_sites.proofs.Tellings.{any_low}
use Rattle.atx_sites.proofs.open_file.open.Goals as goal

pub returns-then-as_raw_fd-le2-clause-fault : goal.returns-then-as_raw_fd-le2-clause-fault
returns-then-as_raw_fd-le2-clause-fault g c = any_low _ _ None 0 c.duplicate.result _ _ c.duplicate.ensures

pub returns-in_err-file-clause-later : goal.returns-in_err-file-clause-later
returns-in_err-file-clause-later g c = late_by _ _ _ c.open.ensures

pub returns-then-as_raw_fd-le2-clause-later : goal.returns-then-as_raw_fd-le2-clause-later
returns-then-as_raw_fd-le2-clause-later g c = later_by _ _ _ _ (late_by _ _ _ c.open.ensures) c.duplicate.ensures

pub returns-else-as_raw_fd-le2-clause-later : goal.returns-else-as_raw_fd-le2-clause-later
returns-else-as_raw_fd-le2-clause-later g c = late_by _ _ _ c.open.ensures
