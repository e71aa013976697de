use Rattle.std.proofs.Common.{◌≡◌, ◌≤◌, [], length}
use Rattle.schedules.specs.Words.{lines_of}
use Rattle.audit_cmd.specs.JournalLines.{lines_from}
use Rattle.audit_cmd.proofs.journal_lines.read_all.Given as goal

abbrev pub invariant-loop-line : goal.invariant-loop-line
invariant-loop-line l = (lines_from l.lines.items l.number (lines_of l.rest) ≡ lines_from [] 1 (lines_of l.text)) × (l.number ≤ 9)

abbrev pub decreases-loop-line : goal.decreases-loop-line
decreases-loop-line l = length l.rest
