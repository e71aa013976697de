use Rattle.node_worlds.proofs.StepLeads.{steps_lead}
use Rattle.node_worlds.proofs.laws.steps_lead.Goals as goal

pub returns : goal.returns
returns c = steps_lead
