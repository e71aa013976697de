use Rattle.world_laws.specs.Events.{event_of}
use Rattle.net_plays.proofs.StoppedPlays.{full_here}
use Rattle.net_plays.proofs.play.Play.happen.Goals as goal

pub returns-then-not-has_room-clause-full : goal.returns-then-not-has_room-clause-full
returns-then-not-has_room-clause-full c = λ same.
    full_here c.node.result c.args.armed (event_of c.args.asked.now) c.args.raw.now c.args.self c.node.ensures (c.has_room.ensures.full c.if-not-has_room.true)
