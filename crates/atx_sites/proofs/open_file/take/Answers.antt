use Rattle.std.proofs.Common.{None}
use Rattle.atx_sites.specs.declared.troubles.Step.TheVariants as steps
use Rattle.atx_sites.proofs.Comings.{late_by, later_by}
use Rattle.atx_sites.proofs.Tellings.{ended_as, ended_forget, ended_settle}
use Rattle.atx_sites.proofs.open_file.take.Goals as goal

pub returns-in-Err-sync-clause-fault : goal.returns-in-Err-sync-clause-fault
returns-in-Err-sync-clause-fault g c =
    ended_as None c.new-in-Err-sync.result (steps.Settle c.args.which) _ _ c.new-in-Err-sync.ensures (ended_settle None _ _ _ c.args.which _ _ c.sync.ensures c.in-Err-sync.is)

pub returns-in-Err-forget-clause-fault : goal.returns-in-Err-forget-clause-fault
returns-in-Err-forget-clause-fault g c =
    ended_as None c.new-in-Err-forget.result (steps.Settle c.args.which) _ _ c.new-in-Err-forget.ensures (ended_forget None _ _ _ c.args.which _ _ c.forget.ensures c.in-Err-forget.is)

pub returns-in-Ok-2-clause-later : goal.returns-in-Ok-2-clause-later
returns-in-Ok-2-clause-later g c = late_by _ _ _ c.examine.ensures

pub returns-in-Err-clause-later : goal.returns-in-Err-clause-later
returns-in-Err-clause-later g c = late_by _ _ _ c.examine.ensures

pub returns-in-Err-lock-clause-later : goal.returns-in-Err-lock-clause-later
returns-in-Err-lock-clause-later g c = later_by _ _ _ _ (late_by _ _ _ c.examine.ensures) c.lock.ensures

pub returns-in-Err-sync-clause-later : goal.returns-in-Err-sync-clause-later
returns-in-Err-sync-clause-later g c = later_by _ _ _ _ (later_by _ _ _ _ (late_by _ _ _ c.examine.ensures) c.lock.ensures) c.sync.ensures

pub returns-in-Ok-forget-clause-later : goal.returns-in-Ok-forget-clause-later
returns-in-Ok-forget-clause-later g c = later_by _ _ _ _ (later_by _ _ _ _ (later_by _ _ _ _ (late_by _ _ _ c.examine.ensures) c.lock.ensures) c.sync.ensures) c.forget.ensures

pub returns-in-Err-forget-clause-later : goal.returns-in-Err-forget-clause-later
returns-in-Err-forget-clause-later g c = later_by _ _ _ _ (later_by _ _ _ _ (later_by _ _ _ _ (late_by _ _ _ c.examine.ensures) c.lock.ensures) c.sync.ensures) c.forget.ensures
