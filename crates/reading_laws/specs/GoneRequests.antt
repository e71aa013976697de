-- What a request did of a node in a net that mirrors a world, in which the node went down.
use Rattle.std.specs.Prelude.{ℕ, List, ◌≡◌, ◌≤◌, Bool, Option, Some}
use Rattle.at_base.specs.declared.event.Local.{Local}
use Rattle.at_model.specs.World.{World, Ask, nth}
use Rattle.memory_net.specs.Closed.{IsExampleRequest}
use Rattle.memory_net.specs.Mails.{Mail}
use Rattle.memory_net.specs.declared.host.Host.{Host}
use Rattle.node_at.specs.declared.node.Node.{Node}
use Rattle.site_memory.specs.declared.arm.Choice.{Choice}
use Rattle.site_memory.specs.declared.machine.MemSite.{MemSite}
use Rattle.mirrored_nets.specs.Goings.{IsSet}
use Rattle.mirrored_nets.specs.Mirrors.{Mirrors}
use Rattle.mirrored_nets.specs.Took.{TookRequest}
use Rattle.mirrored_nets.specs.declared.came.Came.TheVariants as cames
use Rattle.reading_laws.specs.GoneTurns.{TellsFallen, TellsHalted}

-- As of a turn: no call comes before its one step, so no stop does.
pub record AskedTell : Type 0 where
  pub fallen : (count : ℕ) (hosts : List Host) (clocks : List ℕ) (mails more : List Mail) (w : World) (i c : ℕ) (h g : Host) (n : Node) (request : Local) (old : MemSite) (fates : List Bool) (until : Option ℕ)
      → count ≤ 8 → Mirrors count hosts clocks mails w → 1 ≤ i → nth i hosts ≡ Some h → h.node ≡ Some n → nth i clocks ≡ Some c → IsExampleRequest request → IsSet c h.site old
      → (T : TookRequest i count request n old g mails more fates until) → (kept : ℕ) (choice : Choice) → T.came ≡ cames.Falls kept choice → (until ≡ Some 0 → ⊥)
      → TellsFallen w (Ask i request fates until) n T.node fates
  pub halted : (count : ℕ) (hosts : List Host) (clocks : List ℕ) (mails more : List Mail) (w : World) (i c : ℕ) (h g : Host) (n : Node) (request : Local) (old : MemSite) (fates : List Bool) (until : Option ℕ)
      → count ≤ 8 → Mirrors count hosts clocks mails w → 1 ≤ i → nth i hosts ≡ Some h → h.node ≡ Some n → nth i clocks ≡ Some c → IsExampleRequest request → IsSet c h.site old
      → (T : TookRequest i count request n old g mails more fates until) → T.came ≡ cames.Halts → TellsHalted w (Ask i request fates until) n fates
