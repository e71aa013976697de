-- What is done to a net in memory, and what it then mirrors.
use Rattle.std.specs.Prelude.{ℕ, List, [], ◌+◌, ◌≡◌, ◌≤◌, ◌<◌, ◌^◌, Bool, true, false, Option, Some, None, Ok, codes, length, replicate}
use Rattle.std.specs.List.{AllByRecursion}
use Rattle.addressing.specs.declared.post_to.PostTo.{PostTo}
use Rattle.at_base.specs.declared.event.Local.{Local}
use Rattle.at_model.specs.World.{Input, World, WorldEvent, Deliver, Tick, Raw, Turn, Ask, Crash, Up, example_base, example_hosts, node_of, nth, opening, put_nth, world_step}
use Rattle.http_post.specs.OutBytes.{tick_of}
use Rattle.memory_net.specs.Calls.{Begins, IsServing}
use Rattle.memory_net.specs.Closed.{IsExampleRequest}
use Rattle.memory_net.specs.Hosts.{IsFresh}
use Rattle.memory_net.specs.Mails.{Mail}
use Rattle.memory_net.specs.declared.host.Host.{Host}
use Rattle.node_at.specs.Meanings.{tick_path}
use Rattle.node_at.specs.declared.node.Node.{Node}
use Rattle.node_events.specs.NodeEvents.{one_if}
use Rattle.raw_requests.specs.Draws.{Draws}
use Rattle.raw_requests.specs.declared.Drawn.TheVariants as drawns
use Rattle.site_memory.specs.Devices.{Leaves, calls_in, opening_in}
use Rattle.site_memory.specs.declared.arm.Choice.TheVariants.{Drop}
use Rattle.site_memory.specs.declared.machine.MemSite.{MemSite}
use Rattle.mirrored_nets.specs.Answered.{HasEffects, IsAnswered, RefusesAlike}
use Rattle.mirrored_nets.specs.Mirrors.{Mirrors}
use Rattle.mirrored_nets.specs.Took.{TookRequest, TookTurn}
use Rattle.mirrored_nets.specs.TookStart.{TookStart}
use Rattle.mirrored_nets.specs.ToldMachines.{IsReady, IsTold}
use Rattle.mirrored_nets.specs.declared.came.Came.TheVariants as cames

-- the bytes that ask a node for what is due
pub record IsTick (bytes : List ℕ) : Type 0 where
  pub to : PostTo
  pub host : to.host ≡ codes "node"
  pub port : to.port ≡ 80
  pub path : to.path ≡ tick_path
  pub are : bytes ≡ tick_of to

-- the host's machine at that time, which was told which call of it is to fail, or that none is
pub record IsSet (now : ℕ) (h old : MemSite) : Type 0 where
  pub opening : opening_in old.device ≡ opening_in h.device
  pub calls : calls_in old.device ≡ calls_in h.device
  pub clock : old.clock ≡ now
  pub told : IsReady h → IsTold old

-- how much time an input lets go by
abbrev pub ms_of : Input → ℕ
ms_of (Deliver k) = 0
ms_of (Tick ms) = ms
ms_of Raw = 0

-- A connection that brings these bytes to a node is that input of the world: the letter of a message; a tick; or bytes that are refused, before
-- which the interim line is tried where the client waits for it.
abbrev pub IsBrought : List Mail → ℕ → Input → (lines : ℕ) → List ℕ → Type 0
IsBrought mails i (Deliver k) lines bytes = (m : Mail) × (nth k mails ≡ Some m) × (m.receiver ≡ i) × (m.bytes ≡ bytes) × (length bytes ≤ 65536) × (lines ≡ 0)
IsBrought mails i (Tick ms) lines bytes = IsTick bytes × (lines ≡ 0)
IsBrought mails i Raw lines bytes = (status : ℕ) × (waits : Bool) × Draws bytes (drawns.Refused status waits) × (length bytes < 2 ^ 64) × (lines ≡ one_if waits)

-- a start that was done, without any fault
pub record CameUp (base : List ℕ) (old : MemSite) (new : Host) : Type 0 where
  pub node : Node
  pub begins : Begins base (Ok node) old new.site
  pub is : new.node ≡ Some node
  pub serving : IsServing node

-- a crash between calls
pub record WentDown (old : MemSite) (new : Host) : Type 0 where
  pub down : new.node ≡ None
  pub left : Leaves Drop old.device new.site.device
  pub links : new.site.links ≡ old.links

-- an event of the world that is nothing at a node that is down, or up
abbrev pub IsNothing : WorldEvent → Option Node → Type 0
IsNothing (Turn n input fates until) None = Unit {0}
IsNothing (Ask n request fates until) None = Unit {0}
IsNothing (Crash n) None = Unit {0}
IsNothing (Up n landed stop) (Some node) = Unit {0}
IsNothing e other = ⊥

-- So the events of the world are done to the hosts of its nodes, each as the call of its node says.
pub record NetsMirror : Type 0 where
  pub opened : (count : ℕ) (hosts : List Host) → length hosts ≡ count → 1 ≤ count → count ≤ 8 → AllByRecursion IsFresh hosts → Mirrors count hosts (replicate count 0) [] (opening (example_hosts count))
  pub turned : (count : ℕ) (hosts : List Host) (clocks : List ℕ) (mails more : List Mail) (w : World) (i c : ℕ) (h g : Host) (n : Node) (input : Input) (lines : ℕ) (bytes : List ℕ) (old : MemSite)
      (fates : List Bool) (until : Option ℕ)
      → count ≤ 8 → Mirrors count hosts clocks mails w → 1 ≤ i → nth i hosts ≡ Some h → h.node ≡ Some n → nth i clocks ≡ Some c → IsBrought mails i input lines bytes → IsSet (c + ms_of input) h.site old
      → TookTurn i count lines bytes n old g mails more fates until
      → Mirrors count (put_nth i g hosts) (put_nth i (c + ms_of input) clocks) more (world_step w (Turn i input fates until))
  -- what one is answered behind which its node stays up is what its event says
  pub answered : (count : ℕ) (hosts : List Host) (clocks : List ℕ) (mails more : List Mail) (w : World) (i c : ℕ) (h g : Host) (n : Node) (input : Input) (lines : ℕ) (bytes : List ℕ) (old : MemSite)
      (fates : List Bool) (until : Option ℕ)
      → count ≤ 8 → Mirrors count hosts clocks mails w → 1 ≤ i → nth i hosts ≡ Some h → h.node ≡ Some n → nth i clocks ≡ Some c → IsBrought mails i input lines bytes → IsSet (c + ms_of input) h.site old
      → (T : TookTurn i count lines bytes n old g mails more fates until) → T.came ≡ cames.Stays → IsAnswered w (Turn i input fates until) input bytes T.result
  -- and its effects are those of its event
  pub turned_effects : (count : ℕ) (hosts : List Host) (clocks : List ℕ) (mails more : List Mail) (w : World) (i c : ℕ) (h g : Host) (n : Node) (input : Input) (lines : ℕ) (bytes : List ℕ) (old : MemSite)
      (fates : List Bool) (until : Option ℕ)
      → count ≤ 8 → Mirrors count hosts clocks mails w → 1 ≤ i → nth i hosts ≡ Some h → h.node ≡ Some n → nth i clocks ≡ Some c → IsBrought mails i input lines bytes → IsSet (c + ms_of input) h.site old
      → (T : TookTurn i count lines bytes n old g mails more fates until) → T.came ≡ cames.Stays → HasEffects w (Turn i input fates until) T.node
  pub asked : (count : ℕ) (hosts : List Host) (clocks : List ℕ) (mails more : List Mail) (w : World) (i c : ℕ) (h g : Host) (n : Node) (request : Local) (old : MemSite) (fates : List Bool) (until : Option ℕ)
      → count ≤ 8 → Mirrors count hosts clocks mails w → 1 ≤ i → nth i hosts ≡ Some h → h.node ≡ Some n → nth i clocks ≡ Some c → IsExampleRequest request → IsSet c h.site old
      → TookRequest i count request n old g mails more fates until → Mirrors count (put_nth i g hosts) clocks more (world_step w (Ask i request fates until))
  -- one behind which its node stays up is refused where the world refuses it, and its effects are those of its event
  pub asked_effects : (count : ℕ) (hosts : List Host) (clocks : List ℕ) (mails more : List Mail) (w : World) (i c : ℕ) (h g : Host) (n : Node) (request : Local) (old : MemSite) (fates : List Bool) (until : Option ℕ)
      → count ≤ 8 → Mirrors count hosts clocks mails w → 1 ≤ i → nth i hosts ≡ Some h → h.node ≡ Some n → nth i clocks ≡ Some c → IsExampleRequest request → IsSet c h.site old
      → (T : TookRequest i count request n old g mails more fates until) → T.came ≡ cames.Stays → RefusesAlike w i request T.answer × HasEffects w (Ask i request fates until) T.node
  pub upped : (count : ℕ) (hosts : List Host) (clocks : List ℕ) (mails : List Mail) (w : World) (i c : ℕ) (h g : Host) (old : MemSite)
      → count ≤ 8 → Mirrors count hosts clocks mails w → 1 ≤ i → nth i hosts ≡ Some h → h.node ≡ None → IsSet c h.site old → CameUp (example_base i) old g
      → Mirrors count (put_nth i g hosts) clocks mails (world_step w (Up i true false))
  -- one that meets a fault; where its Start landed, the event stops it there
  pub upped_not : (count : ℕ) (hosts : List Host) (clocks : List ℕ) (mails : List Mail) (w : World) (i c : ℕ) (h g : Host) (old : MemSite) (landed stop : Bool)
      → count ≤ 8 → Mirrors count hosts clocks mails w → 1 ≤ i → nth i hosts ≡ Some h → h.node ≡ None → IsSet c h.site old → TookStart (example_base i) old g landed → (landed ≡ true → stop ≡ true)
      → Mirrors count (put_nth i g hosts) clocks mails (world_step w (Up i landed stop))
  pub downed : (count : ℕ) (hosts : List Host) (clocks : List ℕ) (mails : List Mail) (w : World) (i : ℕ) (h g : Host) (n : Node)
      → count ≤ 8 → Mirrors count hosts clocks mails w → 1 ≤ i → nth i hosts ≡ Some h → h.node ≡ Some n → WentDown h.site g
      → Mirrors count (put_nth i g hosts) clocks mails (world_step w (Crash i))
  pub unmoved : (count : ℕ) (hosts : List Host) (clocks : List ℕ) (mails : List Mail) (w : World) (e : WorldEvent) (h : Host)
      → Mirrors count hosts clocks mails w → nth (node_of e) hosts ≡ Some h → IsNothing e h.node → Mirrors count hosts clocks mails (world_step w e)
