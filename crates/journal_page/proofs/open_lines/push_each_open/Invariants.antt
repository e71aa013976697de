use Rattle.std.proofs.Common.{◌≡◌, ◌++◌, drop}
use Rattle.journal_page.specs.OpenLines.{each_open}
use Rattle.journal_page.proofs.open_lines.push_each_open.Given as goal

abbrev pub invariant-loop-i : goal.invariant-loop-i
invariant-loop-i l = l.out.items ++ each_open (drop l.i l.live) ≡ l.fn.out.items ++ each_open l.live
