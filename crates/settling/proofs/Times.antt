-- Times pass as they should.
use Rattle.std.specs.Prelude.{◌≤◌}
use Rattle.std.proofs.Common.{subst}
use Rattle.at_model.specs.World.{run_of}
use Rattle.model_laws.proofs.DecisionLaws.{IfThere}
use Rattle.model_laws.proofs.ReachedWorlds.{run_reached}
use Rattle.settling.specs.Times.{TimesPass}
use Rattle.settling.proofs.Clocks.{IsTimed, run_timed}
use Rattle.settling.proofs.BookTimes.{books_timely}
use Rattle.settling.proofs.Places.{all_nth}

pub times_pass : TimesPass
times_pass = record {
  sent = λ hosts es n x b found up. books_timely hosts (run_of hosts es) (run_reached hosts es) n x b found up;
  seen = λ hosts es n x b found up. subst (IfThere (λ c. c.seen ≤ x.clock)) up (all_nth IsTimed n x (run_of hosts es).nodes (run_timed hosts es) found);
}
