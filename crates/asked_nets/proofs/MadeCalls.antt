-- The calls that a machine made since it was counted.
use Rattle.std.specs.Prelude.{ℕ, List, ◌+◌, ◌≡◌, ◌≤◌, ◌<◌, ◌^◌, drop}
use Rattle.std.proofs.Common.{ap, arith, subst, sym, ◌∙◌}
use Rattle.std.proofs.lemmas.List.{drop-map}
use Rattle.site_memory.specs.Devices.{calls_in}
use Rattle.site_memory.specs.Entries.{made_of, mades}
use Rattle.site_memory.specs.declared.entry.Entry.{Entry}
use Rattle.site_memory.specs.declared.machine.MemSite.{MemSite}
use Rattle.mirrored_nets.specs.Fates.{failures, refusals}
use Rattle.mirrored_nets.specs.Took.{Adds}
use Rattle.asked_nets.specs.Counted.{IsCounted}
use Rattle.asked_nets.specs.declared.made.Counts.{Counts}

pub adds_so : (before : Counts) (calls : List Entry) (failed refused gates : ℕ) (old new : MemSite) → IsCounted before old → calls ≡ drop before.calls new.device.log.items
    → failed ≡ new.tally.link → refused ≡ new.tally.disk → gates ≡ new.tally.gate → (failed ≡ before.sends + failures (mades calls)) × (failed < 2 ^ 63)
    → (refused ≤ before.disk + refusals (mades calls)) × (refused < 2 ^ 63) → (gates ≤ before.gates + refusals (mades calls)) × (gates < 2 ^ 63)
    → refused + gates ≤ before.disk + before.gates + refusals (mades calls) → Adds (mades calls) old new
adds_so before calls failed refused gates old new was are links disk gate counted refusals_are gates_are both = record {
  calls = ap mades are ∙ sym (drop-map made_of before.calls new.device.log.items) ∙ ap (λ k. drop k (calls_in new.device)) was.calls;
  counted = sym links ∙ counted.0 ∙ ap (λ k. k + failures (mades calls)) was.sends;
  uncapped = subst (λ k. k < 2 ^ 63) links counted.1;
  refused = subst (λ k. k ≤ old.tally.disk + refusals (mades calls)) disk (subst (λ k. refused ≤ k + refusals (mades calls)) was.disk refusals_are.0);
  below = subst (λ k. k < 2 ^ 63) disk refusals_are.1;
  raised = subst (λ k. k ≤ old.tally.gate + refusals (mades calls)) gate (subst (λ k. gates ≤ k + refusals (mades calls)) was.gates gates_are.0);
  under = subst (λ k. k < 2 ^ 63) gate gates_are.1;
  both = let d = was.disk in let g = was.gates in omega (arith, both, disk, gate, d, g);
}
