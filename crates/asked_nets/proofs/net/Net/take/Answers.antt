use Rattle.std.proofs.Common.{subst}
use Rattle.world_laws.specs.Events.{event_of}
use Rattle.mirrored_nets.specs.Rooms.{IsFullAt}
use Rattle.asked_nets.specs.Happened.{Happened}
use Rattle.asked_nets.proofs.net.Net.take.Goals as goal

pub returns-in-Ok-clause-happened : goal.returns-in-Ok-clause-happened
returns-in-Ok-clause-happened c = λ count w few mirrors.
    subst (λ a. Happened count w a (event_of c.args.asked.now) c.args.raw.now c.args.self c.in-Ok.taken.net (event_of c.in-Ok.taken.event) c.in-Ok.taken.down c.in-Ok.taken.calls) c.call_of.ensures
    (c.asked_happen.ensures count w c.call_of.result (event_of c.args.asked.now) (event_of c.in-Ok.taken.event) c.in-Ok.taken.down c.args.raw.now c.in-Ok.taken.calls c.args.self c.in-Ok.taken.net few mirrors
    c.in-Ok.ensures.of (c.in-Ok.ensures.step count w few mirrors))

pub returns-then-not-has_room-clause-full : goal.returns-then-not-has_room-clause-full
returns-then-not-has_room-clause-full c = λ is. subst (λ k. IsFullAt k c.args.self.hosts) c.node.ensures (c.has_room.ensures.full c.if-not-has_room.true)

pub returns-in-Err-Apart-clause-may : goal.returns-in-Err-Apart-clause-may
returns-in-Err-Apart-clause-may c = λ count w few mirrors may. absurd (c.in-Err-Apart.ensures.may count w few mirrors may c.in-Err-Apart.field-0-is)
