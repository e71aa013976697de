use Rattle.std.specs.Prelude.{◌≡◌, ◌≤◌, length, map}
use Rattle.std.proofs.Common.{rules, subst}
use Rattle.world_laws.specs.Events.{event_of}
use Rattle.settlement.proofs.EventCounts.{few_held}
use Rattle.settlement.proofs.SettledWorlds.{are_few, rests, settles, too_many}
use Rattle.settlement.specs.declared.run_error.RunError.TheVariants.{TooManyEvents}
use Rattle.settlement.proofs.settle.settle.Goals as goal

pub returns-clause-is : goal.returns-clause-is
returns-clause-is c = settles c.args.world.now (map event_of c.in_ok-events.events.items) c.drains.ensures c.in_ok-events.ensures.is

pub returns-in_err-events-clause-few : goal.returns-in_err-events-clause-few
returns-in_err-events-clause-few c = are_few c.args.world.now c.drains.ensures

pub returns-in_err-events-clause-rests : goal.returns-in_err-events-clause-rests
returns-in_err-events-clause-rests c =
    rests c.args.world.now c.examples_are_apart.ensures c.settles.ensures (subst (λ n. n ≤ 8) c.count-count.ensures.value c.count-count.ensures.nodes.1)

pub returns-clause-few : goal.returns-clause-few
returns-clause-few c = are_few c.args.world.now c.drains.ensures

pub returns-clause-rests : goal.returns-clause-rests
returns-clause-rests c =
    rests c.args.world.now c.examples_are_apart.ensures c.settles.ensures (subst (λ n. n ≤ 8) c.count-count.ensures.value c.count-count.ensures.nodes.1)

pub returns-in_err-events-clause-held : goal.returns-in_err-events-clause-held
returns-in_err-events-clause-held c = few_held c.args.world.now c.drains.ensures

pub returns-clause-held : goal.returns-clause-held
returns-clause-held c = few_held c.args.world.now c.drains.ensures

pub returns-in_err-events-clause-many : goal.returns-in_err-events-clause-many
returns-in_err-events-clause-many c =
    let many = λ (is : c.in_err-events.field-0.0 ≡ TooManyEvents).
    too_many c.args.world.now (length c.args.world.now.events) c.drains.ensures (λ most drains. c.in_err-events.ensures.many most drains is) in
    search rules
