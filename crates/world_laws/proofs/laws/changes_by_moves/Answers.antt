use Rattle.world_laws.proofs.EventMoves.{changes_by_moves}
use Rattle.world_laws.proofs.laws.changes_by_moves.Goals as goal

pub returns : goal.returns
returns c = changes_by_moves (c.ids_rise.ensures).unrecorded c.loses_as_the_model.ensures
