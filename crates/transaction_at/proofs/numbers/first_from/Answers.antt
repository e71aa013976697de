use Rattle.std.proofs.Common.{rules, nat_lt}
use Rattle.std.proofs.lemmas.List.Sorted.{IsPartitionPoint-from_clause}
use Rattle.at_model.specs.Book.{Enlistment}
use Rattle.transaction_at.proofs.SeatNumbers.{partitioned}
use Rattle.transaction_at.proofs.numbers.first_from.Goals as goal

pub returns-clause-place : goal.returns-clause-place
returns-clause-place c =
    IsPartitionPoint-from_clause (λ (s : Enlistment). nat_lt s.number c.args.number) _ _ c.partition_point.ensures.partitioned (partitioned c.args.number c.args.seats.now c.requires) (λ a r q k. search rules)
