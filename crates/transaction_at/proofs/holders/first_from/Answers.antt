use Rattle.std.proofs.Common.{ℕ, rules}
use Rattle.std.proofs.lemmas.List.Sorted.{IsPartitionPoint-from_clause}
use Rattle.transaction_at.specs.Filed.{below}
use Rattle.transaction_at.specs.Holders.{Holder, holders, rank}
use Rattle.transaction_at.proofs.SeatHolders.{index_parted}
use Rattle.transaction_at.proofs.holders.first_from.Goals as goal

pub returns-clause-place : goal.returns-clause-place
returns-clause-place c =
    let h : Holder = record { kind = c.args.kind; participant = c.args.participant.now } in
    IsPartitionPoint-from_clause (λ (i : ℕ). below rank h (holders c.args.seats.now) i) _ _ c.partition_point.ensures.partitioned (index_parted h c.args.index.now c.args.seats.now c.requires) (λ a r q k. search rules)
