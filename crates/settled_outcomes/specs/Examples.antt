-- Worked examples: runs that end at rest.
use Rattle.std.specs.Prelude.{Bool, true, List, ◌≡◌}
use Rattle.at_model.specs.World.{WorldEvent, run_of, example_hosts}
use Rattle.model_laws.specs.Examples.{one_aborts, plain_path, read_only}
use Rattle.model_laws.specs.Settlement.{is_settled}

abbrev pub ends_settled : List WorldEvent → Bool
ends_settled es = is_settled (run_of (example_hosts 3) es)

pub record ExamplesSettle : Type 0 where
  -- a durable participant commits with its root
  pub commits : ends_settled plain_path ≡ true
  -- it votes ReadOnly
  pub leaves : ends_settled read_only ≡ true
  -- another participant votes Aborted
  pub aborts : ends_settled one_aborts ≡ true
