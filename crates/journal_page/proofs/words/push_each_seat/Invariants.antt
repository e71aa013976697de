use Rattle.std.proofs.Common.{◌≡◌, ◌++◌, drop}
use Rattle.journal_page.specs.Words.{each_seat}
use Rattle.journal_page.proofs.words.push_each_seat.Given as goal

abbrev pub invariant-loop-seated : goal.invariant-loop-seated
invariant-loop-seated l = l.out.items ++ each_seat (drop l.seated-index l.seats) ≡ l.fn.out.items ++ each_seat l.seats
