use Rattle.torn_appends.proofs.TornAppends.{appends_torn}
use Rattle.torn_appends.proofs.laws.appends_torn.Goals as goal

pub returns : goal.returns
returns c = appends_torn c.chosen_are_images.ensures
