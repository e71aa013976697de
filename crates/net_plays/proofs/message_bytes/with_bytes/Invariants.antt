use Rattle.std.proofs.Common.{◌≡◌, ◌++◌, length, map}
use Rattle.memory_net.specs.Mails.{mail_of}
use Rattle.schedules.specs.Words.{lines_of}
use Rattle.net_plays.specs.MessageBytes.{with_bytes}
use Rattle.net_plays.proofs.message_bytes.with_bytes.Given as goal

abbrev pub invariant-loop-line : goal.invariant-loop-line
invariant-loop-line l =
    l.lines ++ with_bytes (map mail_of l.left) (lines_of l.rest) ≡ with_bytes (map mail_of l.letters) (lines_of l.report)

abbrev pub decreases-loop-line : goal.decreases-loop-line
decreases-loop-line l = length l.rest
