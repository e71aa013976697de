-- What an event of a world is to a net in memory: the call of a node on its machine.
use Rattle.std.specs.Prelude.{ℕ, List, [], ◌≡◌, Some, length, replicate}
use Rattle.std.specs.List.{AllByRecursion}
use Rattle.at_model.specs.World.{Input, WorldEvent, Raw, node_of, nth, put_nth}
use Rattle.memory_net.specs.Hosts.{IsFresh}
use Rattle.memory_net.specs.declared.host.Host.{Host}
use Rattle.node_at.specs.declared.node.Node.{Node}
use Rattle.site_model.specs.Told.{Made}
use Rattle.mirrored_nets.specs.Goings.{IsNothing, WentDown}
use Rattle.mirrored_nets.specs.Kept.{kept_at}
use Rattle.mirrored_nets.specs.Seen.{Seen}
use Rattle.mirrored_nets.specs.declared.came.Came.{Came}
use Rattle.mirrored_nets.specs.declared.came.Came.TheVariants as cames
use Rattle.mirrored_nets.specs.declared.armed.Armed.{Armed}
use Rattle.mirrored_nets.specs.declared.armed.Armed.TheVariants as calls

-- so many nodes, none of which has started, each on a new machine
pub record IsUnstarted (count : ℕ) (net : Seen) : Type 0 where
  pub many : length net.hosts ≡ count
  pub fresh : AllByRecursion IsFresh net.hosts
  pub clocks : net.clocks ≡ replicate count 0
  pub letters : net.letters ≡ []

-- raw bytes are those that are given
abbrev pub IsGiven : Input → List ℕ → List ℕ → Type 0
IsGiven Raw raw bytes = bytes ≡ raw
IsGiven other raw bytes = Unit {0}

-- The fault that took a node down is that of the armed call: a stop at that one of these left what it says.
abbrev pub IsCutBy : Armed → List Made → Came → Type 0
IsCutBy armed made cames.Stays = Unit {0}
IsCutBy armed made (cames.Falls kept choice) = (k : ℕ) × (armed ≡ calls.Stop k choice) × (kept ≡ kept_at made k choice)
IsCutBy armed made cames.Halts = (k : ℕ) × (armed ≡ calls.Fail k)

-- A node that is up went down between its calls.
pub record CrashesNode (i : ℕ) (old new : Seen) : Type 0 where
  pub host : Host
  pub here : nth i old.hosts ≡ Some host
  pub node : Node
  pub up : host.node ≡ Some node
  pub behind : Host
  pub went : WentDown host.site behind
  pub are : new ≡ record old { hosts = put_nth i behind old.hosts }

-- At a node that is down, or up where it is to start, nothing was done.
pub record RestsNode (e : WorldEvent) (old new : Seen) : Type 0 where
  pub host : Host
  pub here : nth (node_of e) old.hosts ≡ Some host
  pub nothing : IsNothing e host.node
  pub same : new ≡ old
