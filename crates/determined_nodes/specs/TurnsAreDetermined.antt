-- Turns of nodes that are alike.
use Rattle.std.specs.Prelude.{ℕ, List, ◌≡◌, true, take}
use Rattle.http_post.specs.Conversations.{Waits}
use Rattle.memory_net.specs.Calls.{Turns}
use Rattle.mirrored_nets.specs.Took.{Adds, IsTriedLine}
use Rattle.node_at.specs.State.{seen}
use Rattle.node_at.specs.declared.node.Node.{Node}
use Rattle.node_at.specs.declared.shrink.Shrunk.TheVariants.{NoMemory}
use Rattle.node_at.specs.declared.turn.Turned.{Turned}
use Rattle.node_at.specs.declared.turn.Turned.TheVariants.{NoRoom}
use Rattle.site_memory.specs.declared.machine.MemSite.{MemSite}
use Rattle.site_model.specs.Told.{Made}
use Rattle.determined_nodes.specs.AlikeCalls.{CanGo, EndAlike}
use Rattle.determined_nodes.specs.SameNodes.{IsSameMachine, IsSameNode}

-- A turn of a connection that brings these bytes, which made these calls: there was memory, for a step, for its end, and for the interim line where
-- the client waits for it.
pub record HasTurned (bytes : List ℕ) (fails : ℕ) (result : Turned) (n m : Node) (old new : MemSite) (made : List Made) : Type 0 where
  pub goes : CanGo fails n old
  pub turns : Turns bytes result n m old new
  pub adds : Adds made old new
  pub memory : result ≡ NoRoom → ⊥
  pub remembers : m.shrunk ≡ NoMemory → ⊥
  pub tried : Waits bytes true → IsTriedLine 1 (take 1 made)

-- Two such turns, of nodes that are alike, on machines that are alike at one time, at which the same call is to fail, are answered alike and do the same.
abbrev pub TurnsAreDetermined : Type 0
TurnsAreDetermined =
    (bytes : List ℕ) (fails : ℕ) (r s : Turned) (n m p q : Node) (old new here there : MemSite) (made also : List Made) → IsSameNode (seen n) (seen p) → IsSameMachine old here → old.clock ≡ here.clock
    → HasTurned bytes fails r n m old new made → HasTurned bytes fails s p q here there also → (r ≡ s) × EndAlike m q new there made also
