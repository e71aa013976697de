use Rattle.std.specs.Prelude.{◌≡◌, Some, option_map}
use Rattle.std.proofs.Common.{subst}
use Rattle.at_model.specs.World.{nth}
use Rattle.replay_cmd.specs.ReportOf.{receiver_in}
use Rattle.world_laws.specs.Events.{event_of}
use Rattle.net_plays.proofs.AskedLines.{delivery_asked}
use Rattle.net_plays.proofs.StoppedPlays.{err_so, stops_delivery}
use Rattle.net_plays.specs.Stops.Why.{HasMany}
use Rattle.net_plays.specs.declared.play_error.PlayError.TheVariants.{TooManyEvents}
use Rattle.net_plays.proofs.play.Play.deliver.Goals as goal

pub come-requires-clause-can : goal.come-requires-clause-can
come-requires-clause-can c =
    delivery_asked c.args.number c.in-Some-Some.node c.args.self c.in_ok-marked-in-Some-Some.marked (event_of c.turn.result)
    (subst (λ o. Some o ≡ option_map receiver_in (nth c.args.number c.args.self.world.posted)) c.in-Some-Some.field-0-is c.in-Some-Some.ensures)
    c.is_played.ensures c.in_ok-marked-in-Some-Some.ensures c.turn.ensures

pub returns-in_ok-marked-in-Some-Some-clause-many : goal.returns-in_ok-marked-in-Some-Some-clause-many
returns-in_ok-marked-in-Some-Some-clause-many c =
    err_so c.come.result TooManyEvents
    (stops_delivery HasMany c.args.number c.in-Some-Some.node (event_of c.turn.result) c.args.self c.in_ok-marked-in-Some-Some.marked
    (subst (λ o. Some o ≡ option_map receiver_in (nth c.args.number c.args.self.world.posted)) c.in-Some-Some.field-0-is c.in-Some-Some.ensures) c.in_ok-marked-in-Some-Some.ensures c.turn.ensures)
    c.come.ensures.many
