use Rattle.std.proofs.Common.{◌≡◌}
use Rattle.memory_net.specs.Mails.{number_at}
use Rattle.memory_net.proofs.letter.number_of.Given as goal

abbrev pub invariant-loop-number : goal.invariant-loop-number
invariant-loop-number l = number_at l.number l.host ≡ number_at l.fn.count l.fn.host

abbrev pub decreases-loop-number : goal.decreases-loop-number
decreases-loop-number l = l.number
