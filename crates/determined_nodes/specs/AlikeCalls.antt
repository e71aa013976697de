-- What is asked of two calls of nodes that are alike, and what they have in common.
use Rattle.std.specs.Prelude.{ℕ, List, ◌≡◌, false, Some, length}
use Rattle.at_base.specs.declared.record.Record.{Record}
use Rattle.journal_at.specs.declared.version.Version.TheVariants.{Two}
use Rattle.mirrored_nets.specs.Took.{HasRoom}
use Rattle.node_at.specs.Starts.{IsOpen}
use Rattle.node_at.specs.State.{seen}
use Rattle.node_at.specs.declared.node.Node.{Node}
use Rattle.site_memory.specs.Devices.{calls_in}
use Rattle.site_memory.specs.Sites.{told_of}
use Rattle.site_memory.specs.declared.machine.MemSite.{MemSite}
use Rattle.site_model.specs.Told.{Made}
use Rattle.determined_nodes.specs.SameNodes.{IsSameBehind, IsSameMachine}

-- A node that hasn't halted, whose journal is open, on a machine that has room for its records and was told which of its calls is to fail, by its
-- number among all, or none.
pub record CanGo (fails : ℕ) (n : Node) (old : MemSite) : Type 0 where
  pub runs : n.halted ≡ false
  pub limit : n.journal.limit ≡ 4294967295
  pub records : List Record
  pub open_is : IsOpen Two records n.journal (told_of old)
  pub room : HasRoom old
  pub told : (told_of old).counts.arming ≡ Some (record { since = length (calls_in old.device); fails = fails })

-- the same calls, and behind them machines that are alike, and were told to fail the same
pub record MachinesAlike (s t : MemSite) (made also : List Made) : Type 0 where
  pub calls : made ≡ also
  pub machine : IsSameMachine s t
  pub arming : (told_of s).counts.arming ≡ (told_of t).counts.arming

-- and nodes that are alike
pub record EndAlike (n m : Node) (s t : MemSite) (made also : List Made) : Type 0 where
  pub machines : MachinesAlike s t made also
  pub node : IsSameBehind (seen n) (seen m)
