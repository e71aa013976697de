use Rattle.told_stops.proofs.CutTells.{halts_tell}
use Rattle.told_stops.proofs.laws.halts_tell.Goals as goal

pub returns : goal.returns
returns c = halts_tell c.walks_by_fates.ensures c.changes_by_moves.ensures
