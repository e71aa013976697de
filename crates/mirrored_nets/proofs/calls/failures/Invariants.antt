use Rattle.std.proofs.Common.{◌≡◌, ◌≤◌, ◌+◌, drop}
use Rattle.site_memory.specs.Entries.{mades}
use Rattle.mirrored_nets.specs.Fates.{failures}
use Rattle.mirrored_nets.proofs.calls.failures.Given as goal

abbrev pub invariant-loop-entry : goal.invariant-loop-entry
invariant-loop-entry l = record {
  most : l.count ≤ l.entry-index;
  counted : l.count + failures (mades (drop l.entry-index l.calls)) ≡ failures (mades l.calls);
}
