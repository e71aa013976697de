-- The turn of a node that serves.
use Rattle.std.specs.Prelude.{ℕ, List, ◌≡◌, true}
use Rattle.std.proofs.Common.{◌∙◌, subst}
use Rattle.node_at.specs.Endings.{TakesTurn}
use Rattle.node_at.specs.State.{IsNode, seen}
use Rattle.node_at.specs.declared.node.Node.{Node}
use Rattle.node_at.specs.declared.turn.Turned.{Turned}
use Rattle.node_at.specs.declared.turn.Turned.TheVariants as turneds
use Rattle.site_model.specs.Counts.{Rose}
use Rattle.site_memory.specs.Sites.{told_of}
use Rattle.site_memory.specs.declared.machine.MemSite.{MemSite}
use Rattle.memory_net.specs.Calls.{Connects, IsServing, Turns}

pub turns_so : (bytes : List ℕ) (r : Turned) (n m : Node) (old mid new : MemSite) → Connects bytes old mid → TakesTurn told_of r n.role m.shrunk (seen n) (seen m) mid new
    → (n.halted ≡ true → (r ≡ turneds.Halted) × (new ≡ mid)) → (r ≡ turneds.Served 0 → Rose (told_of mid).counts.receive (told_of new).counts.receive) → IsNode (seen m) → m.role ≡ n.role → IsServing n → Turns bytes r n m old new
turns_so bytes r n m old mid new connects turn halted unanswered node role serving = record {
  connected = mid;
  connects = connects;
  turn = subst (λ z. TakesTurn told_of r z m.shrunk (seen n) (seen m) mid new) serving.role turn;
  halted = halted;
  unanswered = unanswered;
  serving = record { node = node; role = role ∙ serving.role };
}
