use Rattle.told_stops.proofs.AskTells.{requests_tell}
use Rattle.told_stops.proofs.laws.requests_tell.Goals as goal

pub returns : goal.returns
returns c = requests_tell c.walks_by_fates.ensures c.changes_by_moves.ensures
