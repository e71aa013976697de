-- Crashes of machines that are alike.
use Rattle.std.specs.Prelude.{ℕ}
use Rattle.mirrored_nets.specs.Took.{FellBack}
use Rattle.site_memory.specs.Devices.{Leaves}
use Rattle.site_memory.specs.declared.arm.Choice.{Choice}
use Rattle.site_memory.specs.declared.machine.MemSite.{MemSite}
use Rattle.determined_nodes.specs.SameNodes.{IsSameMachine}

-- What one choice leaves of machines that are alike is alike, at the end of a call, and where they went back to behind so many of its calls.
pub record FallsAreDetermined : Type 0 where
  pub crashed : (choice : Choice) (s t new there : MemSite) → IsSameMachine s t → Leaves choice s.device new.device → Leaves choice t.device there.device → IsSameMachine new there
  pub fell : (kept : ℕ) (choice : Choice) (old s new here t there : MemSite) → IsSameMachine old here → IsSameMachine s t → FellBack old s kept choice new → FellBack here t kept choice there → IsSameMachine new there
