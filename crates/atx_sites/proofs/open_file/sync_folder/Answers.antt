use Rattle.std.proofs.Common.{rules}
use Rattle.atx_sites.proofs.Comings.{late_by, later_by}
use Rattle.atx_sites.proofs.open_file.sync_folder.Goals as goal

pub returns-in-Ok-sync-clause-calls : goal.returns-in-Ok-sync-clause-calls
returns-in-Ok-sync-clause-calls g c = (g.S.File.AsRawFd.raw_fd c.in-Ok.folder, search rules)

pub returns-in-Err-clause-later : goal.returns-in-Err-clause-later
returns-in-Err-clause-later g c = late_by _ _ _ c.open_folder.ensures

pub returns-in-Ok-sync-clause-later : goal.returns-in-Ok-sync-clause-later
returns-in-Ok-sync-clause-later g c = later_by _ _ _ _ (late_by _ _ _ c.open_folder.ensures) c.sync.ensures

pub returns-clause-later : goal.returns-clause-later
returns-clause-later g c = later_by _ _ _ _ (late_by _ _ _ c.open_folder.ensures) c.sync.ensures
