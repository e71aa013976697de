-- What a schedule that was read says of its nodes, and what holds of the world of a report.
use Rattle.std.specs.Prelude.{ℕ, List, ◌≡◌, ◌≤◌, Ok}
use Rattle.at_model.specs.World.{World, WorldEvent, opening, run_of, example_hosts}
use Rattle.model_laws.specs.Agreement.{HasOneSuperior, IsAgreed, IsBehindAnswers, IsToldTruly}
use Rattle.model_laws.specs.DrawnIds.{AreApart}
use Rattle.model_laws.specs.MadeIds.{made_on}
use Rattle.schedules.specs.declared.line.Line.{Line}
use Rattle.schedules.specs.declared.line.Line.TheVariants as lines
use Rattle.schedules.specs.Schedules.{schedule_of}
use Rattle.replay_cmd.specs.MadeCourses.{world_made}
use Rattle.replay_cmd.specs.ReportOf.{nodes_of}
use Rattle.replay_cmd.specs.ScheduleLines.{AreWithin}

-- There are 1 to 8 nodes.
pub record IsReplayable (lines : List Line) : Type 0 where
  pub least : 1 ≤ nodes_of lines
  pub most : nodes_of lines ≤ 8

-- What is read as a schedule may be replayed.
abbrev pub ReadIsReplayable : Type 0
ReadIsReplayable = (text : List ℕ) (lines : List Line) → schedule_of text ≡ Ok lines → IsReplayable lines

-- It names no other nodes than its own, no tick of it is longer than the longest, and the calls that it arms are numbered from 1.
abbrev pub ReadIsWithin : Type 0
ReadIsWithin = (text : List ℕ) (all : List Line) → schedule_of text ≡ Ok all → AreWithin (nodes_of all) all

-- The world of a run of so many nodes.
pub record IsOfRun (count : ℕ) (w : World) : Type 0 where
  pub events : List WorldEvent
  pub run : w ≡ run_of (example_hosts count) events

-- What holds of a run's world: no two participants of one transaction end differently, through any depth of interposition,
-- and nothing ends twice; a root commits and a subordinate votes behind every answer; activities are told what their roots
-- did; all registrations of one item are accepted by one transaction; and no node makes an id twice.
pub record IsSafe (count : ℕ) (w : World) : Type 0 where
  pub of_run : IsOfRun count w
  pub agreed : IsAgreed w
  pub behind : IsBehindAnswers w
  pub told : IsToldTruly w
  pub superior : HasOneSuperior w
  pub ids : (n : ℕ) → AreApart (made_on n (opening (example_hosts count)) of_run.events)

-- It holds of the world of the schedule of each seed.
abbrev pub MadeWorldsAreSafe : Type 0
MadeWorldsAreSafe = (seed steps : ℕ) → IsSafe 4 (world_made seed steps)
