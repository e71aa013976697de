use Rattle.std.proofs.Common.{subst}
use Rattle.net_plays.specs.Plays.{IsPlayed}
use Rattle.net_plays.proofs.play.Play.is_played.Goals as goal

pub returns : goal.returns
returns c = subst IsPlayed c.self.view_is c.self.invariant
