use Rattle.std.proofs.Common.{◌≡◌, ◌≤◌, ◌<◌, ◌+◌, length}
use Rattle.schedules.specs.InitiatorLines.{asked_from, behind, initiator_lines_of}
use Rattle.schedules.specs.Words.{lines_of}
use Rattle.schedules.proofs.initiator_reader.read_all.Given as goal

abbrev pub invariant-loop-line : goal.invariant-loop-line
invariant-loop-line l = record {
  so_far : behind l.lines.items (asked_from l.made l.number (lines_of l.rest)) ≡ initiator_lines_of l.text;
  within : l.number + length l.rest ≤ 1048577;
  fewer : l.made < l.number;
}

abbrev pub decreases-loop-line : goal.decreases-loop-line
decreases-loop-line l = length l.rest
