use Rattle.std.specs.Prelude.{◌≡◌, ◌<◌, ◌+◌, length}
use Rattle.std.proofs.Common.{ap, rules, subst, ◌∙◌}
use Rattle.world_laws.specs.Events.{event_of}
use Rattle.settlement.proofs.EventGrowth.{delivery_of_many}
use Rattle.settlement.proofs.Rounds.{all_delivered, delivered_on, one_delivered}
use Rattle.settlement.specs.Ways.{Way}
use Rattle.settlement.specs.declared.run_error.RunError.TheVariants.{TooManyEvents}
use Rattle.settlement.proofs.settling_world.Settling.deliver_all.Goals as goal

pub loop-number-preserved : goal.loop-number-preserved
loop-number-preserved c =
    let now = c.loop-number.settling.settling in
    let next = c.in_ok-settling-in-Some.settling.settling in
    let is = ap (λ (w : Way). w.settling) c.in_ok-settling-in-Some.ensures.is in (
      ap (λ (w : Way). w.past) c.in_ok-settling-in-Some.ensures.is ∙ c.loop-number.invariant.0,
      (
        λ last d. c.loop-number.invariant.1.0 last
            (one_delivered last now next c.loop-number.behind c.in-Some.number c.in-Some.node (event_of c.deliver.result) c.in-Some.ensures c.deliver.ensures is d),
        λ last d. delivered_on last now next c.loop-number.behind c.in-Some.number c.in-Some.node (event_of c.deliver.result) c.in-Some.ensures c.deliver.ensures is
            (c.loop-number.invariant.1.1 last d),
      ),
    )

pub returns-in-None-clause-is : goal.returns-in-None-clause-is
returns-in-None-clause-is c =
    c.loop-number.invariant.1.0 c.loop-number.settling.settling (all_delivered c.loop-number.settling.settling c.loop-number.behind c.in-None.ensures)

pub returns-in_err-settling-in-Some-clause-many : goal.returns-in_err-settling-in-Some-clause-many
returns-in_err-settling-in-Some-clause-many c = λ last d.
    let now = c.loop-number.settling in
    let many = λ (is : c.in_err-settling-in-Some.field-0.0 ≡ TooManyEvents).
    subst (λ past. 4294967295 < past + length last.events) c.loop-number.invariant.0
    (delivery_of_many last now.settling c.loop-number.behind c.in-Some.number c.in-Some.node now.past c.in-Some.ensures (c.loop-number.invariant.1.1 last d)
    (c.in_err-settling-in-Some.ensures.many is)) in
    search rules
