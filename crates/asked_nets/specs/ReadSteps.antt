-- What is done to a net in memory as an event is asked for, and which event that was: the call of a node on its machine, whose calls are read.
use Rattle.std.specs.Prelude.{ℕ, List, ◌+◌, ◌≡◌, ◌≤◌, ◌⊎◌, Bool, false, Option, Some, None, length, map}
use Rattle.at_base.specs.declared.event.Local.{Local}
use Rattle.at_model.specs.World.{Input, WorldEvent, Turn, Ask, Crash, Up, example_base, nth, put_nth}
use Rattle.memory_net.specs.Closed.{IsExampleRequest}
use Rattle.memory_net.specs.Mails.{mail_of}
use Rattle.memory_net.specs.declared.host.Host.{Host}
use Rattle.node_at.specs.declared.node.Node.{Node}
use Rattle.site_memory.specs.declared.machine.MemSite.{MemSite}
use Rattle.mirrored_nets.specs.Goings.{IsBrought, IsSet, ms_of}
use Rattle.mirrored_nets.specs.NetSteps.{CrashesNode, IsGiven, RestsNode}
use Rattle.mirrored_nets.specs.Seen.{Seen}
use Rattle.mirrored_nets.specs.ToldMachines.{IsToldOf}
use Rattle.mirrored_nets.specs.Took.{HasRoom}
use Rattle.mirrored_nets.specs.TookStart.{HasLast}
use Rattle.mirrored_nets.specs.declared.armed.Armed.{Armed}
use Rattle.mirrored_nets.specs.declared.armed.Armed.TheVariants as calls
use Rattle.asked_nets.specs.DidRequest.{ReadRequest}
use Rattle.asked_nets.specs.DidStart.{ReadStart}
use Rattle.asked_nets.specs.DidTurn.{ReadTurn}

-- A node that is up took one turn: of a connection that brought what the event does, where that is raw bytes those that are given, when its clock
-- showed that time, on a machine that was told which call of it is to fail. Its posts are the next letters, and nothing else changed.
pub record TurnsNode (armed : Armed) (down : Bool) (i : ℕ) (input : Input) (fates : List Bool) (until : Option ℕ) (raw : List ℕ) (calls : ℕ) (old new : Seen) : Type 0 where
  pub host : Host
  pub here : nth i old.hosts ≡ Some host
  pub node : Node
  pub up : host.node ≡ Some node
  pub clock : ℕ
  pub time : nth i old.clocks ≡ Some clock
  pub lines : ℕ
  pub bytes : List ℕ
  pub brought : IsBrought (map mail_of old.letters) i input lines bytes
  pub given : IsGiven input raw bytes
  pub machine : MemSite
  pub set : IsSet (clock + ms_of input) host.site machine
  pub told : IsToldOf armed machine
  pub behind : Host
  pub took : ReadTurn armed i (length old.hosts) lines bytes node machine behind (map mail_of old.letters) (map mail_of new.letters) fates until down calls
  pub hosts : new.hosts ≡ put_nth i behind old.hosts
  pub clocks : new.clocks ≡ put_nth i (clock + ms_of input) old.clocks

-- A node that is up took a request of its program.
pub record AsksNode (armed : Armed) (i : ℕ) (request : Local) (fates : List Bool) (until : Option ℕ) (calls : ℕ) (old new : Seen) : Type 0 where
  pub host : Host
  pub here : nth i old.hosts ≡ Some host
  pub node : Node
  pub up : host.node ≡ Some node
  pub clock : ℕ
  pub time : nth i old.clocks ≡ Some clock
  pub named : IsExampleRequest request
  pub machine : MemSite
  pub set : IsSet clock host.site machine
  pub told : IsToldOf armed machine
  pub behind : Host
  pub took : ReadRequest armed i (length old.hosts) request node machine behind (map mail_of old.letters) (map mail_of new.letters) fates until calls
  pub hosts : new.hosts ≡ put_nth i behind old.hosts
  pub clocks : new.clocks ≡ old.clocks

-- The files of a machine stand for records among which is a Start.
pub record HasBegun (s : MemSite) : Type 0 where
  pub last : ℕ
  pub is : HasLast last s
  pub some : 1 ≤ last

-- What the machine of a node that starts is told of an armed call: nothing, where none is armed or its files have no Start; else that.
abbrev pub IsTold : Armed → MemSite → Armed → Type 0
IsTold armed s told = ((told ≡ calls.No) × ((armed ≡ calls.No) ⊎ HasLast 0 s)) ⊎ ((told ≡ armed) × HasBegun s)

-- A node that is down was started on its machine, whose files have room.
pub record StartsNode (armed : Armed) (i : ℕ) (landed stop : Bool) (calls : ℕ) (old new : Seen) : Type 0 where
  pub host : Host
  pub here : nth i old.hosts ≡ Some host
  pub down : host.node ≡ None
  pub room : HasRoom host.site
  pub clock : ℕ
  pub time : nth i old.clocks ≡ Some clock
  pub machine : MemSite
  pub set : IsSet clock host.site machine
  pub struck : Armed
  pub struck_is : IsTold armed host.site struck
  pub told : IsToldOf struck machine
  pub behind : Host
  pub took : ReadStart struck (example_base i) machine behind landed stop calls
  pub are : new ≡ record old { hosts = put_nth i behind old.hosts }

-- which call of its machine is armed; only a turn goes down behind its steps
abbrev pub MovesRead : Armed → Bool → WorldEvent → List ℕ → ℕ → Seen → Seen → Type 0
MovesRead armed down (Turn i input fates until) raw calls old new = TurnsNode armed down i input fates until raw calls old new
MovesRead armed down (Ask i request fates until) raw calls old new = (down ≡ false) × AsksNode armed i request fates until calls old new
MovesRead armed down (Crash i) raw calls old new = (down ≡ false) × (calls ≡ 0) × CrashesNode i old new
MovesRead armed down (Up i landed stop) raw calls old new = (down ≡ false) × StartsNode armed i landed stop calls old new

-- at a node that is down, or up where it is to start, nothing was done
pub record RestsRead (asked event : WorldEvent) (down : Bool) (calls : ℕ) (old new : Seen) : Type 0 where
  pub rests : RestsNode event old new
  pub same : event ≡ asked
  pub stays : down ≡ false
  pub none : calls ≡ 0

abbrev pub NetStepRead : Armed → (asked event : WorldEvent) → Bool → List ℕ → ℕ → Seen → Seen → Type 0
NetStepRead armed asked event down raw calls old new = MovesRead armed down event raw calls old new ⊎ RestsRead asked event down calls old new
