use Rattle.decision_log.proofs.TokenPlaces.{both_freed}
use Rattle.decision_log.proofs.kept_plan.free_both.Goals as goal

pub returns-clause-same : goal.returns-clause-same
returns-clause-same c = both_freed c.args.entry.now c.args.live.now.items _ c.args.tokens.now.items _ c.requires.same c.free_records.ensures.items c.free_tokens.ensures.items
