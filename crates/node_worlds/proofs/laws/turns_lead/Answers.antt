use Rattle.node_worlds.proofs.TurnLeads.{turns_lead}
use Rattle.node_worlds.proofs.laws.turns_lead.Goals as goal

pub returns : goal.returns
returns c = turns_lead c.walks_the_due.ensures
