-- Lines of a schedule of so many nodes.
use Rattle.std.specs.Prelude.{ℕ, List, ◌≤◌}
use Rattle.std.specs.List.{AllByRecursion}
use Rattle.schedules.specs.LineTexts.{IsCall, IsNode}
use Rattle.schedules.specs.Values.{largest}
use Rattle.schedules.specs.declared.line.Line.{Line}
use Rattle.schedules.specs.declared.line.Line.TheVariants as lines

-- each node that it names is there, no tick is longer than the longest, and calls are numbered from 1
abbrev pub IsWithin : ℕ → Line → Type 0
IsWithin count (lines.Nodes n) = Unit {0}
IsWithin count (lines.Begin node coordinator ms) = IsNode count node × IsNode count coordinator
IsWithin count (lines.Interpose node activity coordinator) = IsNode count node × IsNode count coordinator
IsWithin count (lines.Work node activity service kind vote) = IsNode count node × IsNode count service
IsWithin count (lines.Commit node activity) = IsNode count node
IsWithin count (lines.Rollback node activity) = IsNode count node
IsWithin count (lines.Deliver message) = Unit {0}
IsWithin count (lines.Flush most) = Unit {0}
IsWithin count (lines.Tick node ms) = IsNode count node × (ms ≤ largest)
IsWithin count (lines.Crash node) = IsNode count node
IsWithin count (lines.Up node) = IsNode count node
IsWithin count (lines.Stop node call left) = IsNode count node × IsCall call
IsWithin count (lines.Fail node call) = IsNode count node × IsCall call
IsWithin count (lines.Inject node digits) = IsNode count node

abbrev pub AreWithin : ℕ → List Line → Type 0
AreWithin count all = AllByRecursion (IsWithin count) all
