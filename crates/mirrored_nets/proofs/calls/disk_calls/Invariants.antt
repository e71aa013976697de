use Rattle.std.proofs.Common.{◌≡◌, ◌+◌, drop}
use Rattle.site_memory.specs.Entries.{mades}
use Rattle.mirrored_nets.proofs.FirstCalls.{first_disk}
use Rattle.mirrored_nets.proofs.calls.disk_calls.Given as goal

abbrev pub invariant-loop-place : goal.invariant-loop-place
invariant-loop-place l = l.place + first_disk (mades (drop l.place l.calls)) ≡ first_disk (mades l.calls)
