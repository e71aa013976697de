-- Nodes that are alike, on machines that are alike: no later call can tell them apart.
use Rattle.std.specs.Prelude.{◌≡◌, false}
use Rattle.journal_at.specs.declared.journal.Journal.{Journal}
use Rattle.node_at.specs.State.{State}
use Rattle.site_memory.specs.Devices.{calls_in, opening_in}
use Rattle.site_memory.specs.declared.machine.MemSite.{MemSite}

-- a journal, but for the room that it has taken
pub record IsSameJournal (j k : Journal) : Type 0 where
  pub live : j.live ≡ k.live
  pub end : j.end ≡ k.end
  pub limit : j.limit ≡ k.limit
  pub generation : j.generation ≡ k.generation
  pub unshut : j.unshut ≡ k.unshut
  pub unsure : j.unsure ≡ k.unsure

-- A node. One that has halted makes no call any more, so nothing is said of its journal.
pub record IsSameNode (n m : State) : Type 0 where
  pub book : n.book ≡ m.book
  pub kept : n.kept ≡ m.kept
  pub halted : n.halted ≡ m.halted
  pub journal : n.halted ≡ false → IsSameJournal n.journal m.journal

-- and its effects, in order
pub record IsSameBehind (n m : State) : Type 0 where
  pub same : IsSameNode n m
  pub effects : n.effects ≡ m.effects

-- A machine: its files when it was opened, and its calls since. Its time, and which call of it is to fail, are set before each call.
pub record IsSameMachine (s t : MemSite) : Type 0 where
  pub opening : opening_in s.device ≡ opening_in t.device
  pub calls : calls_in s.device ≡ calls_in t.device
