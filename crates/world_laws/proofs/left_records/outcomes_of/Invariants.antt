use Rattle.std.proofs.Common.{◌≡◌, [], drop}
use Rattle.at_model.specs.Outcomes.{outcomes_after}
use Rattle.world_laws.proofs.left_records.outcomes_of.Given as goal

abbrev pub invariant-loop-entry : goal.invariant-loop-entry
invariant-loop-entry l = outcomes_after l.outcomes (drop l.entry-index l.journal) ≡ outcomes_after [] l.journal
