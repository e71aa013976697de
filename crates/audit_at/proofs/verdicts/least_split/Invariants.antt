use Rattle.std.proofs.Common.{◌≡◌, drop}
use Rattle.std.specs.Prelude.{filter, option_map}
use Rattle.audit_at.specs.Verdicts.{aborted_tops, committed_tops, is_among, least, least_from, splits}
use Rattle.audit_at.proofs.verdicts.least_split.Given as goal

abbrev pub invariant-loop-outcome : goal.invariant-loop-outcome
invariant-loop-outcome l =
    least_from (option_map (λ i. i.now) l.least) (filter (λ top. is_among (aborted_tops l.outcomes) top) (committed_tops (drop l.outcome-index l.outcomes)))
    ≡ least (splits l.outcomes)
