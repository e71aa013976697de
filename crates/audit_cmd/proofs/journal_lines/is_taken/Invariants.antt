use Rattle.std.proofs.Common.{◌≡◌, drop}
use Rattle.audit_cmd.specs.JournalLines.{is_taken}
use Rattle.audit_cmd.proofs.journal_lines.is_taken.Given as goal

abbrev pub invariant-loop-line : goal.invariant-loop-line
invariant-loop-line l = is_taken (drop l.line-index l.lines) l.base ≡ is_taken l.lines l.base
