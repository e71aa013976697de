use Rattle.std.proofs.Common.{◌≡◌, ◌≤◌, ◌+◌, drop}
use Rattle.site_memory.specs.Entries.{mades}
use Rattle.mirrored_nets.specs.Fates.{refusals}
use Rattle.mirrored_nets.proofs.calls.refusals.Given as goal

abbrev pub invariant-loop-entry : goal.invariant-loop-entry
invariant-loop-entry l = record {
  most : l.count ≤ l.entry-index;
  counted : l.count + refusals (mades (drop l.entry-index l.calls)) ≡ refusals (mades l.calls);
}
