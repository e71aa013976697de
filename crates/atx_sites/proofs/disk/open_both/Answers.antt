use Rattle.atx_sites.proofs.Comings.{later_still}
use Rattle.atx_sites.proofs.disk.open_both.Goals as goal

pub returns-in-Err-open_alone-clause-later : goal.returns-in-Err-open_alone-clause-later
returns-in-Err-open_alone-clause-later g c = later_still _ _ _ c.open_alone.ensures.later c.open_alone-2.ensures.later

pub returns-in-Ok-sync_folder-clause-later : goal.returns-in-Ok-sync_folder-clause-later
returns-in-Ok-sync_folder-clause-later g c = later_still _ _ _ (later_still _ _ _ c.open_alone.ensures.later c.open_alone-2.ensures.later) c.sync_folder.ensures.later

pub returns-in-Err-sync_folder-clause-later : goal.returns-in-Err-sync_folder-clause-later
returns-in-Err-sync_folder-clause-later g c = later_still _ _ _ (later_still _ _ _ c.open_alone.ensures.later c.open_alone-2.ensures.later) c.sync_folder.ensures.later
