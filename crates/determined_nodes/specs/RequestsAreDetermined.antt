-- Requests of nodes that are alike.
use Rattle.std.specs.Prelude.{ℕ, List, ◌≡◌}
use Rattle.at_base.specs.declared.event.Local.{Local}
use Rattle.memory_net.specs.Calls.{Requests}
use Rattle.mirrored_nets.specs.Took.{Adds}
use Rattle.node_at.specs.State.{seen}
use Rattle.node_at.specs.declared.local.Locally.{Locally}
use Rattle.node_at.specs.declared.local.Locally.TheVariants.{NoRoom}
use Rattle.node_at.specs.declared.node.Node.{Node}
use Rattle.site_memory.specs.declared.machine.MemSite.{MemSite}
use Rattle.site_model.specs.Told.{Made}
use Rattle.determined_nodes.specs.AlikeCalls.{CanGo, EndAlike}
use Rattle.determined_nodes.specs.SameNodes.{IsSameMachine, IsSameNode}

-- a request for which there was memory, and the calls that it made
pub record HasAsked (request : Local) (fails : ℕ) (answer : Locally) (n m : Node) (old new : MemSite) (made : List Made) : Type 0 where
  pub goes : CanGo fails n old
  pub requests : Requests request answer n m old new
  pub adds : Adds made old new
  pub memory : answer ≡ NoRoom → ⊥

-- Two such requests, of nodes that are alike, on machines that are alike at one time, at which the same call is to fail, are answered alike and do the
-- same.
abbrev pub RequestsAreDetermined : Type 0
RequestsAreDetermined =
    (request : Local) (fails : ℕ) (r s : Locally) (n m p q : Node) (old new here there : MemSite) (made also : List Made) → IsSameNode (seen n) (seen p) → IsSameMachine old here → old.clock ≡ here.clock
    → HasAsked request fails r n m old new made → HasAsked request fails s p q here there also → (r ≡ s) × EndAlike m q new there made also
