-- Crashes of machines that are alike leave machines that are alike.
use Rattle.std.specs.Prelude.{ℕ, ◌+◌, length, take}
use Rattle.std.proofs.Common.{sym, ◌∙◌}
use Rattle.mirrored_nets.specs.Took.{FellBack}
use Rattle.site_memory.specs.Devices.{Leaves}
use Rattle.site_memory.specs.Disk.{chosen, disk}
use Rattle.site_memory.specs.declared.arm.Choice.{Choice}
use Rattle.site_memory.specs.declared.machine.MemSite.{MemSite}
use Rattle.site_memory.specs.declared.range.Which.TheVariants.{First, Second}
use Rattle.determined_nodes.specs.FallsAreDetermined.{FallsAreDetermined}
use Rattle.determined_nodes.specs.SameNodes.{IsSameMachine}

crashed_one : (choice : Choice) (s t new there : MemSite) → IsSameMachine s t → Leaves choice s.device new.device → Leaves choice t.device there.device → IsSameMachine new there
crashed_one choice s t new there same h k =
    let first = h.first ∙ (λ i. chosen choice (disk First (same.opening i) (same.calls i))) ∙ sym k.first in
    let second = h.second ∙ (λ i. chosen choice (disk Second (same.opening i) (same.calls i))) ∙ sym k.second in
    record { opening = λ i. record { first = first i; second = second i }; calls = h.calls ∙ sym k.calls }

fell_one : (kept : ℕ) (choice : Choice) (old s new here t there : MemSite) → IsSameMachine old here → IsSameMachine s t → FellBack old s kept choice new → FellBack here t kept choice there → IsSameMachine new there
fell_one kept choice old s new here t there before behind F G =
    crashed_one choice F.mid G.mid new there (record {
      opening = F.back.opening ∙ behind.opening ∙ sym G.back.opening;
      calls = F.back.calls_are ∙ (λ i. take (length (before.calls i) + kept) (behind.calls i)) ∙ sym G.back.calls_are;
    }) F.left G.left

pub falls_are_determined : FallsAreDetermined
falls_are_determined = record { crashed = crashed_one; fell = fell_one }
