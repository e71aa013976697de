use Rattle.node_events.proofs.StartEvents.{starts_are_events}
use Rattle.node_events.proofs.laws.starts_are_events.Goals as goal

pub returns : goal.returns
returns c = starts_are_events c.changes_by_moves.ensures
