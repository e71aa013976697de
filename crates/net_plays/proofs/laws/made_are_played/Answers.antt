use Rattle.net_plays.proofs.MadePlays.{made_are_played}
use Rattle.net_plays.proofs.laws.made_are_played.Goals as goal

pub returns : goal.returns
returns c = made_are_played
