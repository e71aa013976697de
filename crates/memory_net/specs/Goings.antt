-- What is done to a net in memory, and that it stands behind it.
use Rattle.std.specs.Prelude.{ℕ, List, [], ◌≡◌, ◌≤◌, ◌<◌, ◌^◌, Some, None, length}
use Rattle.std.specs.List.{AllByRecursion}
use Rattle.at_base.specs.declared.event.Local.{Local}
use Rattle.at_model.specs.World.{example_base, nth, put_nth}
use Rattle.node_at.specs.declared.node.Node.{Node}
use Rattle.memory_net.specs.Closed.{IsExampleRequest}
use Rattle.memory_net.specs.Hosts.{Fell, IsAsked, IsBegun, IsFresh, IsSet, IsTurned}
use Rattle.memory_net.specs.Mails.{Mail}
use Rattle.memory_net.specs.Stands.{Agrees, MayBring, Stands}
use Rattle.memory_net.specs.declared.host.Host.{Host}

pub record GoOn : Type 0 where
  -- no node has started
  pub opened : (count : ℕ) (h : Host) (hosts : List Host) → length hosts ≡ count → IsFresh h → AllByRecursion IsFresh hosts → Stands count hosts []
  -- the turn of a connection that brings a letter to the node, or what is no message
  pub turned : (count : ℕ) (hosts : List Host) (mails more : List Mail) (i : ℕ) (h g : Host) (n : Node) (bytes : List ℕ) → count ≤ 8 → Stands count hosts mails → 1 ≤ i → nth i hosts ≡ Some h → h.node ≡ Some n
      → length bytes < 2 ^ 64 → MayBring mails i bytes → IsTurned i count bytes n h.site g mails more → Stands count (put_nth i g hosts) more
  pub asked : (count : ℕ) (hosts : List Host) (mails more : List Mail) (i : ℕ) (h g : Host) (n : Node) (request : Local) → count ≤ 8 → Stands count hosts mails → 1 ≤ i → nth i hosts ≡ Some h → h.node ≡ Some n
      → IsExampleRequest request → IsAsked i count request n h.site g mails more → Stands count (put_nth i g hosts) more
  pub upped : (count : ℕ) (hosts : List Host) (mails : List Mail) (i : ℕ) (h g : Host) → count ≤ 8 → Stands count hosts mails → nth i hosts ≡ Some h → h.node ≡ None → IsBegun (example_base i) h.site g
      → Stands count (put_nth i g hosts) mails
  pub downed : (count : ℕ) (hosts : List Host) (mails : List Mail) (i : ℕ) (h g : Host) (n : Node) → count ≤ 8 → Stands count hosts mails → 1 ≤ i → nth i hosts ≡ Some h → h.node ≡ Some n → g.node ≡ None → Fell h.site g.site
      → Stands count (put_nth i g hosts) mails
  pub waited : (count : ℕ) (hosts : List Host) (mails : List Mail) (i : ℕ) (h g : Host) → count ≤ 8 → Stands count hosts mails → nth i hosts ≡ Some h → IsSet h g → Stands count (put_nth i g hosts) mails
  -- and then there is agreement, of this very net
  pub agree : (count : ℕ) (hosts : List Host) (mails : List Mail) → count ≤ 8 → (st : Stands count hosts mails) → Agrees count hosts mails st.net
