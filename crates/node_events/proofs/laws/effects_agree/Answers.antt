use Rattle.node_events.proofs.CallEffects.{effects_agree}
use Rattle.node_events.proofs.laws.effects_agree.Goals as goal

pub returns : goal.returns
returns c = effects_agree c.walks_by_fates.ensures c.changes_by_moves.ensures
