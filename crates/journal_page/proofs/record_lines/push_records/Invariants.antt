use Rattle.std.proofs.Common.{◌≡◌, ◌++◌, drop}
use Rattle.journal_page.specs.RecordLines.{record_lines}
use Rattle.journal_page.proofs.record_lines.push_records.Given as goal

abbrev pub invariant-loop-entry : goal.invariant-loop-entry
invariant-loop-entry l = l.out.items ++ record_lines (drop l.entry-index l.entries) ≡ l.fn.out.items ++ record_lines l.entries
