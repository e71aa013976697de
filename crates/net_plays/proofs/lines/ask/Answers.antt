use Rattle.std.specs.Prelude.{◌≡◌, Err, IfErr}
use Rattle.std.proofs.Common.{subst}
use Rattle.net_plays.specs.Stops.{StopsComing}
use Rattle.net_plays.specs.Stops.Why.{IsFull}
use Rattle.net_plays.specs.declared.play_error.PlayError.TheVariants.{Full}
use Rattle.net_plays.proofs.lines.ask.Goals as goal

pub returns-clause-full : goal.returns-clause-full
returns-clause-full c = subst (λ e. IfErr c.come.result (λ x. x ≡ Full → StopsComing IsFull e c.args.play)) c.asking.ensures c.come.ensures.full

pub returns-clause-room : goal.returns-clause-room
returns-clause-room c = subst (λ e. StopsComing IsFull e c.args.play → c.come.result ≡ Err Full) c.asking.ensures c.come.ensures.room
