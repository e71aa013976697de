use Rattle.std.specs.Prelude.{◌≡◌, ◌<◌, ◌+◌, length}
use Rattle.std.proofs.Common.{rules, subst}
use Rattle.model_laws.specs.Settlement.{settle_rounds}
use Rattle.settlement.proofs.EventGrowth.{round_of_many}
use Rattle.settlement.specs.declared.run_error.RunError.TheVariants.{TooManyEvents}
use Rattle.settlement.proofs.settling_world.Settling.rounds.Goals as goal

pub returns-in_err-settling-clause-many : goal.returns-in_err-settling-clause-many
returns-in_err-settling-clause-many c = λ most drains.
    let now = c.loop-round.settling in
    let many = λ (is : c.in_err-settling.field-0.0 ≡ TooManyEvents).
    subst (λ past. 4294967295 < past + length (settle_rounds 8 most c.args.self.settling).events) c.loop-round.invariant.0
    (round_of_many c.loop-round._round most now.past c.args.self.settling now.settling c.loop-round-test.true drains (c.loop-round.invariant.1 most drains)
    (λ last d. c.in_err-settling.ensures.many last d is)) in
    search rules
