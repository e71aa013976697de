-- Votes and outcomes over every run: what holds only together.
use Rattle.std.specs.Prelude.{List}
use Rattle.at_model.specs.World.{World, WorldEvent, run_of, Hosts, HaveOwnAddresses}
use Rattle.model_laws.specs.ReachedWorlds.{Reached}
use Rattle.votes.specs.NamedParticipants.{KeepsDurable, RecordsAnswer}
use Rattle.votes.specs.ToldOutcomes.{AbortsWereTold, CommitsAreBacked, CommittedsAreBacked, GoneIsOver, RollbacksAreBacked}
use Rattle.votes.specs.SeatStates.{SeatsSay}

-- A transaction commits or votes behind every vote, and keeps who is to be told; a commit goes down only from who has
-- committed, and an abort of who has voted only from who has aborted.
pub record IsOutcome (hosts : Hosts) (w : World) : Type 0 where
  pub says : SeatsSay hosts w
  pub answers : RecordsAnswer hosts w
  pub keeps : KeepsDurable hosts w
  pub commits : CommitsAreBacked hosts w
  pub rollbacks : RollbacksAreBacked hosts w
  pub committeds : CommittedsAreBacked hosts w
  pub aborts : AbortsWereTold w
  pub gone : GoneIsOver w

-- So it is in every world that is reached, and in every run.
pub record OutcomesAreBacked : Type 0 where
  pub reached : (hosts : Hosts) (w : World) → HaveOwnAddresses hosts → Reached hosts w → IsOutcome hosts w
  pub runs : (hosts : Hosts) (es : List WorldEvent) → HaveOwnAddresses hosts → IsOutcome hosts (run_of hosts es)
