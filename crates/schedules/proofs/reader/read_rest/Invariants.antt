use Rattle.std.proofs.Common.{◌≡◌, ◌≤◌, length}
use Rattle.schedules.specs.Schedules.{lines_from, onto}
use Rattle.schedules.specs.Words.{lines_of}
use Rattle.schedules.proofs.reader.read_rest.Given as goal

abbrev pub invariant-loop-line : goal.invariant-loop-line
invariant-loop-line l =
    (onto l.lines.items (lines_from l.nodes l.number (lines_of l.rest)) ≡ onto l.fn.lines.items (lines_from l.nodes 2 (lines_of l.text)))
    × (l.number ≤ 10001)

abbrev pub decreases-loop-line : goal.decreases-loop-line
decreases-loop-line l = length l.rest
