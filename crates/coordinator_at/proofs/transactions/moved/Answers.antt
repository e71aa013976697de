use Rattle.std.proofs.Common.{Some}
use Rattle.transaction_at.specs.Moves.{meant}
use Rattle.coordinator_at.proofs.TransactionPlans.{moves}
use Rattle.coordinator_at.proofs.transactions.moved.Goals as goal

pub returns : goal.returns
returns c b now id same found =
    moves b now c.args.answer c.args.moment.now id _ c.args.transaction.now (meant (Some c.args.transaction.now) c.args.choice) c.in_ok-choice.choice c.into_plan.result
    same found (λ i. (c.transaction.view_is i).id) c.in_ok-choice.ensures c.into_plan.ensures
