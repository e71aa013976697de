-- Hosts that are alike stay so.
use Rattle.std.specs.Prelude.{Option, Some, None, ◌≡◌}
use Rattle.std.proofs.Common.{subst, sym, ◌∙◌}
use Rattle.memory_net.specs.declared.host.Host.{Host}
use Rattle.mirrored_nets.specs.Took.{LeftSo}
use Rattle.mirrored_nets.specs.declared.came.Came.{Came}
use Rattle.mirrored_nets.specs.declared.came.Came.TheVariants as cames
use Rattle.node_at.specs.State.{seen}
use Rattle.node_at.specs.declared.node.Node.{Node}
use Rattle.site_memory.specs.declared.arm.Choice.TheVariants.{Keep}
use Rattle.site_memory.specs.declared.machine.MemSite.{MemSite}
use Rattle.determined_nodes.specs.AlikeHosts.{AreSameUp, HostsStayAlike, IsSameHost}
use Rattle.determined_nodes.specs.FallsAreDetermined.{FallsAreDetermined}
use Rattle.determined_nodes.specs.SameNodes.{IsSameMachine, IsSameNode}

up_by : (a b : Option Node) (n m : Node) → a ≡ Some n → b ≡ Some m → IsSameNode (seen n) (seen m) → AreSameUp a b
up_by a b n m e f h = subst (λ z. AreSameUp z b) (sym e) (subst (AreSameUp (Some n)) (sym f) h)

down_by : (a b : Option Node) → a ≡ None → b ≡ None → AreSameUp a b
down_by a b e f = subst (λ z. AreSameUp z b) (sym e) (subst (AreSameUp None) (sym f) tt)

left_one : FallsAreDetermined → (came : Came) (m q : Node) (old new here there : MemSite) (h g : Host) → IsSameNode (seen m) (seen q) → IsSameMachine old here → IsSameMachine new there → LeftSo came m old new h → LeftSo came q here there g
    → IsSameHost h g
left_one falls cames.Stays m q old new here there h g same before behind (up, on) (too, also) =
    record { node = up_by h.node g.node m q up too same; site = subst (λ s. IsSameMachine s g.site) (sym on) (subst (IsSameMachine new) (sym also) behind) }
left_one falls (cames.Falls kept choice) m q old new here there h g same before behind (down, fell) (too, also) =
    record { node = down_by h.node g.node down too; site = falls.fell kept choice old new h.site here there g.site before behind fell also }
left_one falls cames.Halts m q old new here there h g same before behind (down, left, links) (too, also, lines) =
    record { node = down_by h.node g.node down too; site = falls.crashed Keep new there h.site g.site behind left also }

pub hosts_stay_alike : FallsAreDetermined → HostsStayAlike
hosts_stay_alike falls = record {
  set = λ now h g old here same one other. (
    record { opening = one.opening ∙ same.site.opening ∙ sym other.opening; calls = one.calls ∙ same.site.calls ∙ sym other.calls },
    one.clock ∙ sym other.clock,
  );
  left = left_one falls;
}
