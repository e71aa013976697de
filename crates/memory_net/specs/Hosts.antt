-- A node on its machine, behind a call.
use Rattle.std.specs.Prelude.{ℕ, List, ◌++◌, ◌≡◌, ◌⊎◌, Bool, Result, Ok, Some, None, drop, length, true}
use Rattle.at_base.specs.declared.event.Local.{Local}
use Rattle.node_at.specs.declared.local.Locally.{Locally}
use Rattle.node_at.specs.declared.local.Locally.TheVariants as answers
use Rattle.node_at.specs.declared.node.Node.{Node}
use Rattle.node_at.specs.declared.turn.Turned.{Turned}
use Rattle.node_at.specs.declared.turn.Turned.TheVariants as turneds
use Rattle.node_at.specs.declared.fault.StartFault.{StartFault}
use Rattle.site_memory.specs.Devices.{Leaves, calls_in, opening_in}
use Rattle.site_memory.specs.Sites.{IsNew}
use Rattle.site_memory.specs.Entries.{mades}
use Rattle.site_memory.specs.declared.arm.Choice.{Choice}
use Rattle.site_memory.specs.declared.machine.MemSite.{MemSite}
use Rattle.site_model.specs.Told.{sent_by}
use Rattle.memory_net.specs.Calls.{Begins, IsServing, Requests, Turns}
use Rattle.memory_net.specs.Mails.{Mail, mails_in}
use Rattle.memory_net.specs.declared.host.Host.{Host}

-- a machine came up on what was chosen of a crash
abbrev pub Fell : MemSite → MemSite → Type 0
Fell old new = (choice : Choice) × Leaves choice old.device new.device

-- The node is up on its machine and may go on; or it is down, and its machine has crashed.
abbrev pub IsBehind : Node → MemSite → (may_go : Bool) → Host → Type 0
IsBehind m t may_go new = ((new.node ≡ Some m) × (new.site ≡ t) × (may_go ≡ true)) ⊎ ((new.node ≡ None) × Fell t new.site)

-- the letters among a machine's calls since it had made so many
abbrev pub since : (number count : ℕ) → MemSite → MemSite → List Mail
since number count old new = mails_in number count (sent_by (mades (drop (length (calls_in old.device)) new.device.log.items)))

-- a turn of a connection that brings these bytes
pub record IsTurned (number count : ℕ) (bytes : List ℕ) (n : Node) (old : MemSite) (new : Host) (mails more : List Mail) : Type 0 where
  pub result : Turned
  pub node : Node
  pub site : MemSite
  pub turns : Turns bytes result n node old site
  pub may_go : Bool
  pub goes_on : may_go ≡ true → result ≡ turneds.Halted → ⊥
  pub behind : IsBehind node site may_go new
  pub posted : more ≡ mails ++ since number count old site

-- a request of its program
pub record IsAsked (number count : ℕ) (request : Local) (n : Node) (old : MemSite) (new : Host) (mails more : List Mail) : Type 0 where
  pub answer : Locally
  pub node : Node
  pub site : MemSite
  pub requests : Requests request answer n node old site
  pub may_go : Bool
  pub room : answer ≡ answers.NoRoom → ⊥
  pub goes_on : may_go ≡ true → answer ≡ answers.Halted → ⊥
  pub behind : IsBehind node site may_go new
  pub posted : more ≡ mails ++ since number count old site

-- a start on a machine
pub record IsBegun (base : List ℕ) (old : MemSite) (new : Host) : Type 0 where
  pub result : Result Node StartFault
  pub site : MemSite
  pub begins : Begins base result old site
  pub behind : ((n : Node) × (result ≡ Ok n) × (new.node ≡ Some n) × (new.site ≡ site) × IsServing n) ⊎ ((new.node ≡ None) × Fell site new.site)

-- the same node, on a machine of the same files and calls
pub record IsSet (old new : Host) : Type 0 where
  pub node : new.node ≡ old.node
  pub opening : opening_in new.site.device ≡ opening_in old.site.device
  pub calls : calls_in new.site.device ≡ calls_in old.site.device

-- no node, on a new machine
pub record IsFresh (h : Host) : Type 0 where
  pub node : h.node ≡ None
  pub site : IsNew h.site
