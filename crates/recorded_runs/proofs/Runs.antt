-- What the journals of every run say.
use Rattle.at_model.specs.World.{run_of}
use Rattle.model_laws.proofs.ReachedWorlds.{run_reached}
use Rattle.recorded_runs.specs.JournalRecords.{RunsRecord}
use Rattle.recorded_runs.proofs.LedCoordinators.{coordinators_led}
use Rattle.recorded_runs.proofs.RecordedEnds.{journals_say}
use Rattle.recorded_runs.proofs.VoteOrder.{votes_ranked}

pub runs_record : RunsRecord
runs_record = record {
  led = λ hosts es distinct. coordinators_led hosts (run_of hosts es) distinct (run_reached hosts es);
  says = λ hosts es distinct. journals_say hosts (run_of hosts es) distinct (run_reached hosts es);
  ranked = λ hosts es distinct. votes_ranked hosts (run_of hosts es) distinct (run_reached hosts es);
}
