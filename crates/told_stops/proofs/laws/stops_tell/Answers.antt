use Rattle.told_stops.proofs.StruckTells.{stops_tell}
use Rattle.told_stops.proofs.laws.stops_tell.Goals as goal

pub returns : goal.returns
returns c = stops_tell c.walks_by_fates.ensures c.changes_by_moves.ensures
