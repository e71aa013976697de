use Rattle.std.proofs.Common.{rules, ap, arith, ◌≡◌, []}
use Rattle.std.specs.Prelude.{sum_by}
use Rattle.coordinator_at.specs.Holdings.{transaction_held}
use Rattle.coordinator_at.proofs.holdings.all_held.Goals as goal

pub returns : goal.returns
returns c =
    let none : c.loop-transaction.transaction-iterator ≡ [] = search rules in
    let rest : sum_by transaction_held c.loop-transaction.transaction-iterator ≡ 0 = ap (sum_by transaction_held) none in
    let within = c.loop-transaction.invariant.0 in
    let same = c.loop-transaction.invariant.1 in
    omega (arith, rest, within, same)
