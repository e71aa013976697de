use Rattle.serving.specs.Services.{serviced}
use Rattle.serving.proofs.StartLines.{unstarted, came_up_from}
use Rattle.serving.proofs.serve.serve.Goals as goal

pub returns-in-Ok-start-clause-serves : goal.returns-in-Ok-start-clause-serves
returns-in-Ok-start-clause-serves g c =
    came_up_from g.H.Site.told (serviced c.args.service.now) _ _ _ _ c.attach.result _ c.in-Ok-base_of.base c.in-Ok-start.node c.attach.ensures c.in-Ok.is c.in-Ok-base_of.ensures c.in-Ok-start.ensures.starts _ _ _ c.attend.ensures.comes

pub returns-clause-serves : goal.returns-clause-serves
returns-clause-serves g c =
    unstarted g.H.Site.told (serviced c.args.service.now) c.args.site.now c.start.new.site c.attach.new.self c.in-Err-start.fault c.tell_fault.result _ _ c.in-Ok.ensures c.in-Err-start.ensures.starts c.tell_fault.ensures.told
