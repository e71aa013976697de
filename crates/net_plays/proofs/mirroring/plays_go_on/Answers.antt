use Rattle.net_plays.proofs.NextEvents.{plays_go_on}
use Rattle.net_plays.proofs.mirroring.plays_go_on.Goals as goal

pub returns : goal.returns
returns c = plays_go_on c.ids_rise.ensures c.changes_by_moves.ensures c.ids_stay_drawn.ensures c.steps_keep_place.ensures c.makes_no_id_twice.ensures
