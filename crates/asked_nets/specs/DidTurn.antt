-- What a turn of a node on its machine came to, and as what its calls are read.
use Rattle.std.specs.Prelude.{ℕ, List, ◌++◌, ◌≡◌, Bool, Option, length, take}
use Rattle.memory_net.specs.Calls.{Turns}
use Rattle.memory_net.specs.Mails.{Mail, mails_in}
use Rattle.memory_net.specs.declared.host.Host.{Host}
use Rattle.node_at.specs.declared.node.Node.{Node}
use Rattle.node_at.specs.declared.shrink.Shrunk.TheVariants.{NoMemory}
use Rattle.node_at.specs.declared.turn.Turned.{Turned}
use Rattle.site_memory.specs.declared.machine.MemSite.{MemSite}
use Rattle.site_model.specs.Told.{Made, sent_by}
use Rattle.mirrored_nets.specs.Took.{Adds, EndsSo, HasRoom, IsTriedLine, LeftSo, kept_of}
use Rattle.mirrored_nets.specs.declared.armed.Armed.{Armed}
use Rattle.call_readings.specs.Reads.{Reads, came_to}
use Rattle.call_readings.specs.declared.became.Became.{Became}
use Rattle.asked_nets.specs.Behind.{goes_anew}

-- A turn of a connection that brings these bytes, before whose first step so many calls come; its machine made so many, and whether the node went
-- down behind its steps.
pub record DidTurn (i count lines : ℕ) (bytes : List ℕ) (n : Node) (old : MemSite) (new : Host) (mails more : List Mail) (down : Bool) (calls : ℕ) : Type 0 where
  pub room : HasRoom old
  pub result : Turned
  pub node : Node
  pub site : MemSite
  pub turns : Turns bytes result n node old site
  pub made : List Made
  pub adds : Adds made old site
  -- those that come before the first step tried the interim line
  pub tried : IsTriedLine lines (take lines made)
  -- there was memory at its end, where the journal is written anew
  pub remembers : node.shrunk ≡ NoMemory → ⊥
  pub became : Became
  pub ends : EndsSo (came_to became) result
  pub left : LeftSo (came_to became) node old site new
  pub posted : more ≡ mails ++ mails_in i count (sent_by (take (kept_of (came_to became) made) made))
  pub down_is : down ≡ goes_anew became
  pub calls_are : calls ≡ length made

-- Its calls, of which this one was armed, are those of an event with these fates and this stop.
pub record ReadTurn (armed : Armed) (i count lines : ℕ) (bytes : List ℕ) (n : Node) (old : MemSite) (new : Host) (mails more : List Mail) (fates : List Bool) (until : Option ℕ) (down : Bool) (calls : ℕ) : Type 0 where
  pub did : DidTurn i count lines bytes n old new mails more down calls
  pub reads : Reads armed lines did.made did.became fates until
