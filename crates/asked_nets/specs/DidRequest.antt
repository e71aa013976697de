-- What a request of a node's program came to on its machine, and as what its calls are read.
use Rattle.std.specs.Prelude.{ℕ, List, ◌++◌, ◌≡◌, Bool, Option, length, take}
use Rattle.at_base.specs.declared.event.Local.{Local}
use Rattle.memory_net.specs.Calls.{Requests}
use Rattle.memory_net.specs.Mails.{Mail, mails_in}
use Rattle.memory_net.specs.declared.host.Host.{Host}
use Rattle.node_at.specs.declared.local.Locally.{Locally}
use Rattle.node_at.specs.declared.node.Node.{Node}
use Rattle.site_memory.specs.declared.machine.MemSite.{MemSite}
use Rattle.site_model.specs.Told.{Made, sent_by}
use Rattle.mirrored_nets.specs.Took.{Adds, AnswersSo, HasRoom, LeftSo, kept_of}
use Rattle.mirrored_nets.specs.declared.armed.Armed.{Armed}
use Rattle.call_readings.specs.Reads.{IsOfSteps, Reads, came_to}
use Rattle.call_readings.specs.declared.became.Became.{Became}

-- before whose step no call comes
pub record DidRequest (i count : ℕ) (request : Local) (n : Node) (old : MemSite) (new : Host) (mails more : List Mail) (calls : ℕ) : Type 0 where
  pub room : HasRoom old
  pub answer : Locally
  pub node : Node
  pub site : MemSite
  pub requests : Requests request answer n node old site
  pub made : List Made
  pub adds : Adds made old site
  pub became : Became
  pub ends : AnswersSo (came_to became) answer
  pub left : LeftSo (came_to became) node old site new
  pub posted : more ≡ mails ++ mails_in i count (sent_by (take (kept_of (came_to became) made) made))
  pub calls_are : calls ≡ length made

-- Its calls, of which this one was armed, are those of an event with these fates and this stop. Behind it the journal isn't written anew.
pub record ReadRequest (armed : Armed) (i count : ℕ) (request : Local) (n : Node) (old : MemSite) (new : Host) (mails more : List Mail) (fates : List Bool) (until : Option ℕ) (calls : ℕ) : Type 0 where
  pub did : DidRequest i count request n old new mails more calls
  pub reads : Reads armed 0 did.made did.became fates until
  pub of_steps : IsOfSteps did.became
