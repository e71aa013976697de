-- Nodes of a net that mirrors a world are such as these laws speak of.
use Rattle.std.specs.Prelude.{ℕ, List, ◌≡◌, ◌≤◌, Some, true, length}
use Rattle.at_model.specs.World.{Input, World, nth}
use Rattle.http_post.specs.Conversations.{Waits}
use Rattle.memory_net.specs.Mails.{Mail}
use Rattle.memory_net.specs.declared.host.Host.{Host}
use Rattle.mirrored_nets.specs.Goings.{IsBrought}
use Rattle.mirrored_nets.specs.Mirrors.{Mirrors}
use Rattle.mirrored_nets.specs.LeftStarts.{IsMarked}
use Rattle.mirrored_nets.specs.Took.{HasRoom}
use Rattle.node_at.specs.declared.node.Node.{Node}
use Rattle.site_memory.specs.Devices.{calls_in, opening_in}
use Rattle.site_memory.specs.Sites.{IsNew, told_of}
use Rattle.site_memory.specs.Tells.{reads}
use Rattle.site_memory.specs.declared.machine.MemSite.{MemSite}
use Rattle.determined_nodes.specs.AlikeCalls.{CanGo}
use Rattle.determined_nodes.specs.StartsAreDetermined.{StartsFrom}

pub record NetNodes : Type 0 where
  -- one that is up can go on, on a machine with the files and the calls of its host's
  pub goes : (count : ℕ) (hosts : List Host) (clocks : List ℕ) (mails : List Mail) (w : World) (i c : ℕ) (h : Host) (n : Node) (old : MemSite) (fails : ℕ)
      → count ≤ 8 → Mirrors count hosts clocks mails w → nth i hosts ≡ Some h → h.node ≡ Some n → nth i clocks ≡ Some c → opening_in old.device ≡ opening_in h.site.device → calls_in old.device ≡ calls_in h.site.device
      → HasRoom old → (told_of old).counts.arming ≡ Some (record { since = length (calls_in old.device); fails = fails }) → CanGo fails n old
  -- its client waits for the interim line only where one call is to try it
  pub waits : (count : ℕ) (hosts : List Host) (clocks : List ℕ) (mails : List Mail) (w : World) (i : ℕ) (input : Input) (lines : ℕ) (bytes : List ℕ)
      → count ≤ 8 → Mirrors count hosts clocks mails w → 1 ≤ i → IsBrought mails i input lines bytes → Waits bytes true → lines ≡ 1
  -- one that has started before can start, and so can one on a new machine
  pub marked : (last since fails : ℕ) (old : MemSite) → IsMarked last old → StartsFrom since fails (reads (opening_in old.device) (calls_in old.device))
  pub fresh : (since fails : ℕ) (old : MemSite) → IsNew old → StartsFrom since fails (reads (opening_in old.device) (calls_in old.device))
