use Rattle.std.proofs.Common.{◌≡◌, drop}
use Rattle.std.specs.Prelude.{filter, map, option_map}
use Rattle.audit_at.specs.Superiors.{comes_back}
use Rattle.audit_at.specs.Verdicts.{cycles, least, least_from}
use Rattle.audit_at.proofs.verdicts.least_cycle.Given as goal

abbrev pub invariant-loop-sub : goal.invariant-loop-sub
invariant-loop-sub l =
    least_from (option_map (λ i. i.now) l.least) (filter (λ item. comes_back l.subs item) (map (λ s. s.item) (drop l.sub-index l.subs)))
    ≡ least (cycles l.subs)
