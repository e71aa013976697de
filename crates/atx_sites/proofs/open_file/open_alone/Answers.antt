use Rattle.std.proofs.Common.{None}
use Rattle.atx_sites.specs.declared.troubles.Step.TheVariants as steps
use Rattle.atx_sites.proofs.Comings.{later_still}
use Rattle.atx_sites.proofs.Tellings.{ended_as, of_open}
use Rattle.atx_sites.proofs.open_file.open_alone.Goals as goal

pub returns-in-Err-clause-fault : goal.returns-in-Err-clause-fault
returns-in-Err-clause-fault g c = ended_as None c.new.result (steps.Open c.args.which) _ _ c.new.ensures (of_open None c.args.which _ _ c.in-Err.ensures.fault)

pub returns-in-Ok-take-clause-later : goal.returns-in-Ok-take-clause-later
returns-in-Ok-take-clause-later g c = later_still _ _ _ c.open.ensures.later c.take.ensures.later

pub returns-in-Err-take-clause-later : goal.returns-in-Err-take-clause-later
returns-in-Err-take-clause-later g c = later_still _ _ _ c.open.ensures.later c.take.ensures.later
