use Rattle.std.specs.Prelude.{◌≡◌, ◌<◌, ◌+◌, length, map}
use Rattle.std.proofs.Common.{arith, rules, subst}
use Rattle.model_laws.specs.Settlement.{all_also}
use Rattle.world_laws.specs.Events.{event_of}
use Rattle.settlement.specs.declared.run_error.RunError.TheVariants.{TooManyEvents}
use Rattle.settlement.proofs.EventGrowth.{one_of_many}
use Rattle.settlement.proofs.settling_world.Settling.all_also.Goals as goal

pub returns-in_err-settling-clause-many : goal.returns-in_err-settling-clause-many
returns-in_err-settling-clause-many c =
    let within : c.loop-event.event-index < length c.args.all.now = omega arith in
    let many = λ (is : c.in_err-settling.field-0.0 ≡ TooManyEvents).
    subst (λ past. 4294967295 < past + length (all_also (map event_of c.args.all.now) c.args.self.settling).events) c.loop-event.invariant.0
    (one_of_many c.args.all.now c.loop-event.event-index c.loop-event.settling.past c.loop-event.settling.settling c.args.self.settling within c.loop-event.invariant.1
    (c.in_err-settling.ensures.many is)) in
    search rules
