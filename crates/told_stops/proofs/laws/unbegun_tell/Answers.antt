use Rattle.told_stops.proofs.CutTells.{unbegun_tell}
use Rattle.told_stops.proofs.laws.unbegun_tell.Goals as goal

pub returns : goal.returns
returns c = unbegun_tell c.walks_by_fates.ensures c.changes_by_moves.ensures
