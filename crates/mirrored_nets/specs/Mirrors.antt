-- A net in memory that mirrors a world of the model.
use Rattle.std.specs.Prelude.{ℕ, List, [], false, ◌≡◌, ◌⊎◌, IfSome, None, Some, length}
use Rattle.std.specs.List.{AllByRecursion}
use Rattle.at_base.specs.declared.record.Record.{Record}
use Rattle.at_model.specs.World.{Node as Known, World, example_base, example_hosts, new_nodes, nth, place_of}
use Rattle.journal_at.specs.declared.version.Version.TheVariants.{One, Two}
use Rattle.memory_net.specs.Calls.{IsServing}
use Rattle.memory_net.specs.Mails.{Mail}
use Rattle.memory_net.specs.Stands.{Stands}
use Rattle.memory_net.specs.declared.host.Host.{Host}
use Rattle.node_at.specs.Starts.{StandFor}
use Rattle.node_at.specs.declared.node.Node.{Node}
use Rattle.node_worlds.specs.Nets.{IsWorldOf, Place}
use Rattle.site_memory.specs.Sites.{told_of}
use Rattle.site_memory.specs.declared.machine.MemSite.{MemSite}
use Rattle.site_model.specs.Told.{Files}
use Rattle.mirrored_nets.specs.ToldMachines.{IsReady}

-- The node of a host serves and hasn't halted, where it is up; and its machine can be told which call is to fail.
pub record MayServe (h : Host) : Type 0 where
  pub serving : IfSome h.node IsServing
  pub runs : IfSome h.node (λ n. n.halted ≡ false)
  pub ready : IsReady h.site

abbrev pub AllServe : List Host → Type 0
AllServe hosts = AllByRecursion MayServe hosts

-- Files stand for records of version 2; or for none, where there are none.
abbrev pub IsOfTwo : List Record → Files → Type 0
IsOfTwo rs c = ((qs : List Record) × StandFor Two qs c) ⊎ ((rs ≡ []) × StandFor One [] c)

-- whatever a crash leaves of a machine's
abbrev pub AreOfTwo : List Record → MemSite → Type 0
AreOfTwo rs s = (c : Files) → (told_of s).images c → IsOfTwo rs c

-- Its hosts and letters are a net of nodes that serve, of which that is the world: each node has there the book that it has here, its journal
-- stands for the records that it has there, and the letters are the messages of the world, one by one. The clocks are those of its nodes.
pub record Mirrors (count : ℕ) (hosts : List Host) (clocks : List ℕ) (mails : List Mail) (w : World) : Type 0 where
  pub many : length hosts ≡ count
  pub stands : Stands count hosts mails
  pub world : IsWorldOf (example_hosts count) stands.net w
  pub times : length clocks ≡ count
  pub nodes : length w.nodes ≡ count
  -- an address leads to the node whose base it has
  pub reach : (address : List ℕ) → place_of 1 w.nodes address ≡ place_of 1 (new_nodes example_base count 1) address
  pub clocks_are : (i c : ℕ) (x : Known) → nth i clocks ≡ Some c → nth i w.nodes ≡ Some x → x.clock ≡ c
  -- a file of a journal has at most 4,294,967,295 bytes
  pub limits : (i : ℕ) (h : Host) (n : Node) → nth i hosts ≡ Some h → h.node ≡ Some n → n.journal.limit ≡ 4294967295
  -- the files of a node that is down are of version 2, but where its journal has no record
  pub of_two : (i : ℕ) (h : Host) (p : Place) → nth i hosts ≡ Some h → h.node ≡ None → nth i stands.net.places ≡ Some p → AreOfTwo p.records h.site
