use Rattle.node_events.proofs.TurnStatuses.{turns_answer_so}
use Rattle.node_events.proofs.laws.turns_answer_so.Goals as goal

pub returns : goal.returns
returns c = turns_answer_so c.walks_by_fates.ensures c.changes_by_moves.ensures
