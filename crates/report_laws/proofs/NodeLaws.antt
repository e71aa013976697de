-- What is known of nodes, and where two events come to the same.
use Rattle.std.proofs.Common.{ℕ, ◌≡◌, ◌≤◌}
use Rattle.std.specs.Prelude.{Bool, Some, None}
use Rattle.asked_nets.specs.Happened.{MirrorsAt}
use Rattle.at_model.specs.World.{World, WorldEvent, nth}
use Rattle.determined_nodes.specs.AlikeHosts.{HostsStayAlike}
use Rattle.determined_nodes.specs.FallsAreDetermined.{FallsAreDetermined}
use Rattle.determined_nodes.specs.NetNodes.{NetNodes}
use Rattle.determined_nodes.specs.OneReading.{EventsHaveOneReading}
use Rattle.determined_nodes.specs.RequestsAreDetermined.{RequestsAreDetermined}
use Rattle.determined_nodes.specs.StartsAreDetermined.{StartsAreDetermined, StartsFrom}
use Rattle.determined_nodes.specs.TurnsAreDetermined.{TurnsAreDetermined}
use Rattle.memory_net.specs.declared.host.Host.{Host}
use Rattle.mirrored_nets.specs.Seen.{Seen}
use Rattle.record_bytes.specs.Versions.{AreApart}
use Rattle.site_memory.specs.Devices.{calls_in, opening_in}
use Rattle.site_memory.specs.Tells.{reads}
use Rattle.report_laws.specs.AlikeNets.{IsSameNet}
use Rattle.report_laws.specs.Laws.{DrawOneThing}

pub record NodeLaws : Type 0 where
  pub draw : DrawOneThing
  pub apart : AreApart
  pub turns : TurnsAreDetermined
  pub requests : RequestsAreDetermined
  pub starts : StartsAreDetermined
  pub falls : FallsAreDetermined
  pub stay : HostsStayAlike
  pub readings : EventsHaveOneReading
  pub nodes : NetNodes

-- a net that mirrors a world of at most eight nodes
pub record Mirrored (net : Seen) : Type 0 where
  pub count : ℕ
  pub few : count ≤ 8
  pub world : World
  pub mirrors : MirrorsAt count net world

-- where the node of that number is down, its files are such as determine a start
abbrev pub CanStart : ℕ → Seen → Type 0
CanStart n net = (h : Host) → nth n net.hosts ≡ Some h → h.node ≡ None → (since fails : ℕ) → StartsFrom since fails (reads (opening_in h.site.device) (calls_in h.site.device))

-- two events are the same, behind which so many calls were made and the node went down, or didn't; and the nets behind them are alike
pub record CameSame (event other : WorldEvent) (down off : Bool) (calls also : ℕ) (new there : Seen) : Type 0 where
  pub event_is : event ≡ other
  pub down_is : down ≡ off
  pub calls_are : calls ≡ also
  pub net : IsSameNet new there
