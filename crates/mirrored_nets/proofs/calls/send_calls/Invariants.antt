use Rattle.std.proofs.Common.{◌≡◌, ◌+◌, drop}
use Rattle.site_memory.specs.Entries.{mades}
use Rattle.mirrored_nets.proofs.FirstCalls.{first_sent}
use Rattle.mirrored_nets.proofs.calls.send_calls.Given as goal

abbrev pub invariant-loop-place : goal.invariant-loop-place
invariant-loop-place l = l.place + first_sent (mades (drop l.place l.calls)) ≡ first_sent (mades l.calls)
