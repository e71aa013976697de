use Rattle.std.specs.Prelude.{◌≡◌, Err}
use Rattle.std.proofs.Common.{subst}
use Rattle.net_plays.specs.Stops.{StopsComing}
use Rattle.net_plays.specs.Stops.Why.{IsFull}
use Rattle.net_plays.specs.declared.play_error.PlayError.TheVariants.{Full}
use Rattle.net_plays.proofs.lines.come_up.Goals as goal

pub returns-clause-room : goal.returns-clause-room
returns-clause-room c = subst (λ e. StopsComing IsFull e c.args.play → c.come.result ≡ Err Full) c.coming_up.ensures c.come.ensures.room
