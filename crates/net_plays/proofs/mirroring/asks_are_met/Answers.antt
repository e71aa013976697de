use Rattle.net_plays.proofs.MetAsks.{asks_are_met}
use Rattle.net_plays.proofs.mirroring.asks_are_met.Goals as goal

pub returns : goal.returns
returns c = asks_are_met c.letters_are_short.ensures
