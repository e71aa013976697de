-- What is kept while a world settles: over each step, where messages are passed by that nobody gets, and where time passes.
use Rattle.std.specs.Prelude.{ℕ, List, Some, ◌≡◌, ◌⊎◌}
use Rattle.at_base.specs.declared.event.Arrived.{Arrived}
use Rattle.at_model.specs.World.{Node, Posted, World, decoded, nth, put_nth, Hosts}
use Rattle.model_laws.specs.Agreement.{IsIn}
use Rattle.settled.specs.CalmSteps.{Goes}

-- no node gets this message
abbrev pub IsLost : Hosts → Posted → Type 0
IsLost hosts q = (n : ℕ) (a : Arrived) → q.receiver ≡ Some n → decoded (hosts.base_of n) q.content ≡ Some a → ⊥

pub record Invariant (hosts : Hosts) : Type 1 where
  pub Of : World → List Posted → Type 0
  pub on : (u v : World) (before after : List Posted) → Goes hosts u v before after → Of u before → Of v after
  pub drops : (w : World) (before after : List Posted) → ((q : Posted) → IsIn q before → IsIn q after ⊎ IsLost hosts q) → Of w before → Of w after
  pub waits : (u : World) (n : ℕ) (x : Node) (clock : ℕ) (queue : List Posted) → nth n u.nodes ≡ Some x → Of u queue
      → Of (record u { nodes = put_nth n (record x { clock = clock }) u.nodes }) queue
