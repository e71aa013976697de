-- Hosts that are alike, and stay so.
use Rattle.std.specs.Prelude.{ℕ, Option, Some, None, ◌≡◌}
use Rattle.memory_net.specs.declared.host.Host.{Host}
use Rattle.mirrored_nets.specs.Goings.{IsSet}
use Rattle.mirrored_nets.specs.Took.{LeftSo}
use Rattle.mirrored_nets.specs.declared.came.Came.{Came}
use Rattle.node_at.specs.State.{seen}
use Rattle.node_at.specs.declared.node.Node.{Node}
use Rattle.site_memory.specs.declared.machine.MemSite.{MemSite}
use Rattle.determined_nodes.specs.SameNodes.{IsSameMachine, IsSameNode}

-- both are down, or their nodes are alike
abbrev pub AreSameUp : Option Node → Option Node → Type 0
AreSameUp None None = Unit {0}
AreSameUp None (Some m) = ⊥
AreSameUp (Some n) None = ⊥
AreSameUp (Some n) (Some m) = IsSameNode (seen n) (seen m)

pub record IsSameHost (h g : Host) : Type 0 where
  pub node : AreSameUp h.node g.node
  pub site : IsSameMachine h.site g.site

-- The machines of such hosts are alike for a call at one time. Behind calls that left nodes and machines alike, and of which the same came, such are the
-- hosts that are up, or down on what a crash left.
pub record HostsStayAlike : Type 0 where
  pub set : (now : ℕ) (h g : Host) (old here : MemSite) → IsSameHost h g → IsSet now h.site old → IsSet now g.site here → IsSameMachine old here × (old.clock ≡ here.clock)
  pub left : (came : Came) (m q : Node) (old new here there : MemSite) (h g : Host) → IsSameNode (seen m) (seen q) → IsSameMachine old here → IsSameMachine new there → LeftSo came m old new h → LeftSo came q here there g → IsSameHost h g
