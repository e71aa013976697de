-- What a job prints of its input, and the status that it ends with.
use Rattle.std.specs.Prelude.{ℕ, List, [], ◌++◌, true, codes, decimal, Result, Ok, Err, Option, length, take, if◌then◌else◌, ◌≡◌, ◌≤◌, ◌⊎◌}
use Rattle.std.specs.Io.KnownBytes.{Appends}
use Rattle.envelope_cmd.specs.Output.{Output, accepted, refused}
use Rattle.envelope_cmd.specs.Cells.{IsCellOf}
use Rattle.envelope_cmd.specs.Checks.{IsCheckOf}
use Rattle.mirrored_nets.specs.Seen.{Seen}
use Rattle.net_plays.specs.NetReports.{IsNetReport}
use Rattle.net_plays.specs.Stops.{HasNoReport}
use Rattle.net_plays.specs.Stops.Why.{HasMany, IsFull}
use Rattle.replay_cmd.specs.declared.options.Options.{Options}
use Rattle.schedules.specs.Causes.{number_of_cause}
use Rattle.schedules.specs.Schedules.{schedule_of}
use Rattle.schedules.specs.declared.line.BadLine.{BadLine}
use Rattle.schedules.specs.declared.line.Line.{Line}
use Rattle.command_line.specs.Jobs.{Filter, is_replay}
use Rattle.command_line.specs.Jobs.Filter.{Cell, Check, Replay}

-- the line of the first bad line of a schedule
unfoldable pub bad_line : BadLine → List ℕ
bad_line bad = codes "line " ++ (decimal bad.line ++ (codes " cause " ++ (decimal (number_of_cause bad.cause) ++ codes "\n")))

-- The report of a schedule, with what is asked beside it, and the nodes that it is of, on machines in memory. In its world no two participants of one
-- transaction end differently, and all else holds of it that holds of every run (`safe`); where it is brought to rest, it is at rest (`settled`).
pub record IsReplayed (options : Options) (lines : List Line) (output : Output) : Type 0 where
  pub text : List ℕ
  pub net : Seen
  pub report : IsNetReport options lines text net
  pub is : output ≡ accepted text

-- that report, or the line of the first bad line
abbrev pub Replays : Options → Result (List Line) BadLine → Output → Type 0
Replays options (Ok lines) output = IsReplayed options lines output
Replays options (Err bad) output = output ≡ refused (bad_line bad)

-- There is no report: on the way the journal of a node has no room for another record.
abbrev pub FindsNoRoom : Options → Result (List Line) BadLine → Type 0
FindsNoRoom options (Ok lines) = HasNoReport IsFull options.settle lines
FindsNoRoom options (Err bad) = ⊥

-- of a replay alone
abbrev pub HasNoRoomFor : Filter → List ℕ → Type 0
HasNoRoomFor (Cell state) input = ⊥
HasNoRoomFor (Check path) input = ⊥
HasNoRoomFor (Replay options) input = FindsNoRoom options (schedule_of input)

-- There is no report: on the way, or with the events that bring it to rest, its world would have more than 4,294,967,295 events.
abbrev pub FindsTooManyEvents : Options → Result (List Line) BadLine → Type 0
FindsTooManyEvents options (Ok lines) = HasNoReport HasMany options.settle lines
FindsTooManyEvents options (Err bad) = ⊥

abbrev pub HasTooManyEventsFor : Filter → List ℕ → Type 0
HasTooManyEventsFor (Cell state) input = ⊥
HasTooManyEventsFor (Check path) input = ⊥
HasTooManyEventsFor (Replay options) input = FindsTooManyEvents options (schedule_of input)

-- a filter prints this of its input
abbrev pub Reports : Filter → List ℕ → Output → Type 0
Reports (Cell state) input output = IsCellOf input state output
Reports (Check path) input output = IsCheckOf input path output
Reports (Replay options) input output = Replays options (schedule_of input) output

-- 0 where it ended, 3 where it refused its input
abbrev pub status_of : Output → ℕ
status_of output = if output.is_refusal then 3 else 0

-- the whole report was printed
pub record IsDone (filter : Filter) (input : List ℕ) (old new : Option (List ℕ)) (status : ℕ) : Type 0 where
  pub output : Output
  pub reports : Reports filter input output
  pub printed : Appends old new output.text
  pub ended : status ≡ status_of output

-- a beginning of the report was printed
pub record IsCut (filter : Filter) (input : List ℕ) (old new : Option (List ℕ)) : Type 0 where
  pub output : Output
  pub reports : Reports filter input output
  pub count : ℕ
  pub within : count ≤ length output.text
  pub printed : Appends old new (take count output.text)

-- memory ran out; or of the nodes that a replay runs one had no room for another record in its journal (12), or the world would have had more events
-- than it takes (14)
abbrev pub IsFailure : Filter → ℕ → Type 0
IsFailure filter status = (status ≡ 9) ⊎ ((is_replay filter ≡ true) × ((status ≡ 12) ⊎ (status ≡ 14)))

-- so it ended before anything was printed
pub record IsUndone (filter : Filter) (old new : Option (List ℕ)) (status : ℕ) : Type 0 where
  pub silent : Appends old new []
  pub cause : IsFailure filter status

-- a filter without faults
abbrev pub IsReport : Filter → List ℕ → Option (List ℕ) → Option (List ℕ) → ℕ → Type 0
IsReport filter input old new status = IsDone filter input old new status ⊎ IsUndone filter old new status
