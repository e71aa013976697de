-- What the calls of a node on a machine in memory come to.
use Rattle.std.specs.Prelude.{ℕ, List, [], ◌∷◌, ◌≡◌, Result, Some, true}
use Rattle.at_base.specs.declared.event.Local.{Local}
use Rattle.node_at.specs.Endings.{TakesTurn}
use Rattle.node_at.specs.Locals.{Asked}
use Rattle.node_at.specs.StartedNodes.{Starts}
use Rattle.node_at.specs.State.{IsNode, seen}
use Rattle.node_at.specs.Steps.{Keeping}
use Rattle.node_at.specs.declared.fault.StartFault.{StartFault}
use Rattle.node_at.specs.declared.local.Locally.{Locally}
use Rattle.node_at.specs.declared.local.Locally.TheVariants as answers
use Rattle.node_at.specs.declared.node.Node.{Node}
use Rattle.node_at.specs.declared.role.Role.TheVariants.{All}
use Rattle.node_at.specs.declared.turn.Turned.{Turned}
use Rattle.node_at.specs.declared.turn.Turned.TheVariants as turneds
use Rattle.node_worlds.specs.Nets.{IsOpened}
use Rattle.completion_at.specs.declared.requests.Refusal.{Refusal}
use Rattle.site_model.specs.Counts.{Rose}
use Rattle.site_model.specs.Site.{Arming}
use Rattle.site_memory.specs.Sites.{link_of, told_of}
use Rattle.site_memory.specs.declared.machine.MemSite.{MemSite}

-- a node of every role, between its calls
pub record IsServing (n : Node) : Type 0 where
  pub node : IsNode (seen n)
  pub role : n.role ≡ All

-- the machine's one connection brings these bytes; all else of it is as it was
pub record Connects (bytes : List ℕ) (old new : MemSite) : Type 0 where
  pub brings : link_of new.line ≡ record { open_bytes = []; waiting = bytes ∷ [] }
  pub others : new ≡ record old { line = new.line }

-- a turn of a connection that brings these bytes
pub record Turns (bytes : List ℕ) (result : Turned) (n m : Node) (old new : MemSite) : Type 0 where
  pub connected : MemSite
  pub connects : Connects bytes old connected
  pub turn : TakesTurn told_of result All m.shrunk (seen n) (seen m) connected new
  pub halted : n.halted ≡ true → (result ≡ turneds.Halted) × (new ≡ connected)
  pub unanswered : result ≡ turneds.Served 0 → Rose (told_of connected).counts.receive (told_of new).counts.receive
  pub serving : IsServing m

-- On a machine that tells what it was told to fail it is opened, and its bytes are received.
abbrev pub TurnsAreHeard : Type 0
TurnsAreHeard = (bytes : List ℕ) (result : Turned) (n m : Node) (old new : MemSite) (a : Arming) → Turns bytes result n m old new → (told_of old).counts.arming ≡ Some a
    → IsOpened result × (result ≡ turneds.Served 0 → ⊥)

-- a request
pub record Requests (request : Local) (answer : Locally) (n m : Node) (old new : MemSite) : Type 0 where
  pub asked : Asked answer (seen n) (seen m) request (told_of old) (told_of new)
  pub nothing : (why : Refusal) → answer ≡ answers.Refused why → new ≡ old
  pub halted : n.halted ≡ true → new ≡ old
  pub counted : Keeping (told_of old) (told_of new)
  pub serving : IsServing m

-- a start
abbrev pub Begins : (base : List ℕ) → Result Node StartFault → MemSite → MemSite → Type 0
Begins base result old new = Starts result base All 4294967295 (told_of old) (told_of new)
