use Rattle.std.specs.Prelude.{◌≤◌, map}
use Rattle.std.proofs.Common.{refl, subst}
use Rattle.world_laws.specs.Events.{event_of}
use Rattle.world_laws.specs.Runs.{world_of}
use Rattle.net_plays.proofs.PlayedEvents.{behind_inside, can_inside, few_events, goes_on, happens}
use Rattle.net_plays.proofs.StoppedPlays.{no_room, too_many}
use Rattle.net_plays.proofs.play.Play.done.Goals as goal

pub invariant_of-result : goal.invariant_of-result
invariant_of-result c =
    let few : c.self.inside.world.count ≤ 8 = subst (λ n. n ≤ 8) c.count-count.ensures.value c.count-count.ensures.nodes.1 in
    goes_on c.plays_go_on.ensures c.self.inside.world.count c.in-Ok-happen.world.count (world_of c.self.inside.world) (world_of c.in-Ok-happen.world)
    (map event_of c.self.inside.world.events) (map event_of c.in-Ok-happen.world.events) c.args.armed (event_of c.args.asked.now) c.args.raw.now
    c.self.inside.net c.in-Ok.taken.net (event_of c.in-Ok.taken.event) c.in-Ok.taken.down c.in-Ok.taken.calls c.in-Ok-happen.ensures.count c.in-Ok-happen.ensures.world c.in-Ok-happen.ensures.events
    c.ms-happened.ensures.short c.self.invariant (behind_inside _ c.args.self c.args.armed c.self.view_is c.requires.behind)
    (can_inside _ c.args.self (event_of c.args.asked.now) c.args.raw.now c.self.view_is c.requires.can)
    (c.in-Ok.ensures.happened c.self.inside.world.count (world_of c.self.inside.world) few c.self.invariant.mirrors)

pub returns-clause-done : goal.returns-clause-done
returns-clause-done c =
    let few : c.self.inside.world.count ≤ 8 = subst (λ n. n ≤ 8) c.count-count.ensures.value c.count-count.ensures.nodes.1 in
    happens c.args.armed (event_of c.args.asked.now) c.args.raw.now c.args.drawn _ _ _ c.node-node.result c.incarnation.result c.is_some-was_up.result c.armed_behind.result c.fault_of.result
    (event_of c.in-Ok.taken.event) c.in-Ok.taken.down c.in-Ok.taken.calls c.self.view_is c.node-node.ensures c.incarnation.ensures c.is_some-was_up.ensures c.armed_behind.ensures c.fault_of.ensures
    (c.in-Ok.ensures.happened c.self.inside.world.count (world_of c.self.inside.world) few c.self.invariant.mirrors)
    c.in-Ok-happen.ensures.count c.in-Ok-happen.ensures.world c.in-Ok-happen.ensures.events refl c.set.ensures c.in-Ok-happen.ensures.text

pub returns-in-Err-Full-clause-full : goal.returns-in-Err-Full-clause-full
returns-in-Err-Full-clause-full c = λ same.
    no_room c.args.armed (event_of c.args.asked.now) c.args.raw.now _ c.args.self c.self.view_is (c.in-Err-Full.ensures.full c.in-Err-Full.field-0-is)

pub returns-in-Err-TooManyEvents-clause-many : goal.returns-in-Err-TooManyEvents-clause-many
returns-in-Err-TooManyEvents-clause-many c = λ same.
    let few : c.self.inside.world.count ≤ 8 = subst (λ n. n ≤ 8) c.count-count.ensures.value c.count-count.ensures.nodes.1 in
    too_many c.args.armed (event_of c.args.asked.now) c.args.raw.now _ c.args.self (event_of c.in-Ok.taken.event) c.in-Ok.taken.down c.in-Ok.taken.calls c.in-Ok.taken.net c.self.view_is
    (c.in-Ok.ensures.happened c.self.inside.world.count (world_of c.self.inside.world) few c.self.invariant.mirrors) (c.in-Err-TooManyEvents.ensures.many c.in-Err-TooManyEvents.field-0-is)

pub unreachable-requires : goal.unreachable-requires
unreachable-requires c =
    let few : c.self.inside.world.count ≤ 8 = subst (λ n. n ≤ 8) c.count-count.ensures.value c.count-count.ensures.nodes.1 in
    c.in-Err-Apart.ensures.may c.self.inside.world.count (world_of c.self.inside.world) few c.self.invariant.mirrors
    (c.asks_are_met.ensures c.self.inside.world.count c.self.inside.net (world_of c.self.inside.world) (map event_of c.self.inside.world.events) (event_of c.args.asked.now) c.args.raw.now few
    (few_events c.self.inside.world.events _ c.events-events.ensures.value c.events-events.ensures.few) c.ms-asked.ensures.short c.self.invariant
    (can_inside _ c.args.self (event_of c.args.asked.now) c.args.raw.now c.self.view_is c.requires.can))
    c.in-Err-Apart.field-0-is
