use Rattle.node_worlds.proofs.lives.machines_agree.Goals as goal

pub returns : goal.returns
returns g c = λ hosts net ms few run. c.nets_agree.ensures hosts net few (c.runs_on_machines.ensures hosts net ms run)
