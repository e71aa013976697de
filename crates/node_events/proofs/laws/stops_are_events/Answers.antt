use Rattle.node_events.proofs.StopEvents.{stops_are_events}
use Rattle.node_events.proofs.laws.stops_are_events.Goals as goal

pub returns : goal.returns
returns c = stops_are_events c.walks_by_fates.ensures c.changes_by_moves.ensures
