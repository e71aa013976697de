-- Worked examples: the statuses of a root, and of its one durable participant, along runs.
use Rattle.std.specs.Prelude.{List, [], ◌∷◌, ◌++◌, ◌≡◌}
use Rattle.at_base.specs.declared.notice.Vote.TheVariants as votes
use Rattle.at_model.specs.Views.{commit_at, deliver_to}
use Rattle.at_model.specs.World.{WorldEvent, run_of, example_hosts}
use Rattle.model_laws.specs.Examples.{first, one_aborts, one_participant, plain_path, read_only}
use Rattle.outcomes.specs.AtomicCommit.{Status}
use Rattle.outcomes.specs.Statuses.{status_of}

abbrev pub statuses_in : List WorldEvent → List Status
statuses_in es = status_of (run_of (example_hosts 3) es) (record { node = 2; id = first }) ∷ status_of (run_of (example_hosts 3) es) (record { node = 3; id = first }) ∷ []

pub record StatusesAreSeen : Type 0 where
  pub registered : statuses_in (one_participant votes.Prepared) ≡ Status.Working ∷ Status.Working ∷ []
  -- the initiator's Commit and the Prepare have come
  pub voted : statuses_in (one_participant votes.Prepared ++ (commit_at 1 first ∷ deliver_to 2 9 ∷ deliver_to 3 10 ∷ [])) ≡ Status.Working ∷ Status.Prepared ∷ []
  -- and the Prepared
  pub decided : statuses_in (one_participant votes.Prepared ++ (commit_at 1 first ∷ deliver_to 2 9 ∷ deliver_to 3 10 ∷ deliver_to 2 11 ∷ [])) ≡ Status.Committed ∷ Status.Prepared ∷ []
  pub done : statuses_in plain_path ≡ Status.Committed ∷ Status.Committed ∷ []
  -- the participant votes ReadOnly
  pub left : statuses_in read_only ≡ Status.Committed ∷ Status.Left ∷ []
  -- another participant votes Aborted
  pub rolled_back : statuses_in one_aborts ≡ Status.Aborted ∷ Status.Aborted ∷ []
