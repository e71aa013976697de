use Rattle.std.proofs.Common.{◌≡◌, ◌++◌, drop}
use Rattle.status_pages.specs.Overview.{escaped}
use Rattle.status_pages.proofs.overview.push_escaped.Given as goal

abbrev pub invariant-loop-byte : goal.invariant-loop-byte
invariant-loop-byte l = l.out.items ++ escaped (drop l.byte-index l.byte-items) ≡ l.fn.out.items ++ escaped l.text
